use Rattle.std.proofs.Common.{arith}
use Rattle.std.proofs.lemmas.Option.{slice_get_within}
use Rattle.networks.proofs.LoopLaws.{ends_all, looked_all}
use Rattle.lending.proofs.lent.look_all.Goals as goal

pub look_at-requires : goal.look_at-requires
look_at-requires g c =
    ends_all c.args.pipes.now c.args.nodes.now c.loop-pipe.nodes c.requires.wired c.requires.ends
    c.loop-pipe.invariant.sees c.loop-pipe.pipe c.loop-pipe-test.true _

pub loop-pipe-preserved : goal.loop-pipe-preserved
loop-pipe-preserved g c =
    looked_all c.args.pipes.now c.args.nodes.now c.loop-pipe.nodes c.requires.wired c.requires.ends
    c.loop-pipe.invariant.sees c.loop-pipe.pipe c.loop-pipe-test.true _
    c.loop-pipe.invariant.each c.look_at.new.nodes c.look_at.ensures

pub returns-clause-beside : goal.returns-clause-beside
returns-clause-beside g c = λ p l e. c.loop-pipe.invariant.each p
    (omega (arith, c.loop-pipe-test.false, slice_get_within c.args.pipes.now p l e)) l e
