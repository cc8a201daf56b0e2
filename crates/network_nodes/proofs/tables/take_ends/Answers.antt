use Rattle.std.proofs.Common.{arith, ap, ◌∙◌}
use Rattle.std.specs.Prelude.{None}
use Rattle.network_nodes.proofs.ShareLaws.{next_within, leaves_on_error, taken_more, never_none}
use Rattle.network_nodes.proofs.ShareLaws.{leaves_all}
use Rattle.network_nodes.proofs.tables.take_ends.Goals.{in-Some+in_ok-push, in_default}
use Rattle.network_nodes.proofs.tables.take_ends.Goals as goal

pub take_end-requires : goal.take_end-requires
take_end-requires g c =
    next_within c.args.slots.now.items c.loop-pipe.slots.items c.args.pipes.now
    c.loop-pipe.pipe-index c.loop-pipe-test.true c.requires.there c.requires.once
    c.loop-pipe.invariant.count c.loop-pipe.invariant.others

pub returns-in_err-push-clause-others : goal.returns-in_err-push-clause-others
returns-in_err-push-clause-others g c =
    leaves_on_error c.args.slots.now.items c.loop-pipe.slots.items c.args.pipes.now
    c.loop-pipe.pipe-index c.loop-pipe-test.true c.requires.there c.requires.once
    c.loop-pipe.invariant.count c.loop-pipe.invariant.others None c.take_end.new.slots.items
    c.take_end.ensures.rest

pub loop-pipe-preserved : goal.loop-pipe-preserved
loop-pipe-preserved g c = elim c.match-take_end.branch [
  | in-Some+in_ok-push w ↦
      taken_more c.args.slots.now.items c.loop-pipe.slots.items c.args.pipes.now
      c.loop-pipe.pipe-index c.loop-pipe-test.true c.requires.there c.requires.once
      c.loop-pipe.invariant.count c.loop-pipe.invariant.others c.take_end.result None w.in-Some.end
      c.loop-pipe.ends.items c.match-take_end.ends.items c.take_end.new.slots.items
      c.take_end.ensures.rest c.take_end.ensures.end w.in-Some.is c.loop-pipe.invariant.long
      c.loop-pipe.invariant.each (ap (λ v. v.items) w.ends-is ∙ w.in_ok-push.ensures.items)
  | in_default w ↦
      absurd (never_none c.args.slots.now.items c.loop-pipe.slots.items c.args.pipes.now
      c.loop-pipe.pipe-index c.loop-pipe-test.true c.requires.there c.requires.once
      c.loop-pipe.invariant.count c.loop-pipe.invariant.others c.take_end.result
      c.take_end.ensures.end w.in_default.is)
]

pub returns-clause-others : goal.returns-clause-others
returns-clause-others g c =
    leaves_all c.args.slots.now.items c.loop-pipe.slots.items c.args.pipes.now
    c.loop-pipe.pipe-index (let e = c.loop-pipe.auto.pipe-index-end in
    omega (arith, c.loop-pipe-test.false, e)) c.loop-pipe.invariant.count
    c.loop-pipe.invariant.others
