use Rattle.std.proofs.Common.{ap, sym, ◌∙◌}
use Rattle.std.proofs.lemmas.Bool.{false≢true}
use Rattle.network_tests.proofs.lemmas.ComputeLaws.{given_more, given_same}
use Rattle.network_tests.proofs.sequential.give.Goals as goal
use Rattle.network_tests.proofs.sequential.give.Goals.{then-writes+in_ok-held, else-writes}

pub loop-pipe-preserved : goal.loop-pipe-preserved
loop-pipe-preserved c =
    elim c.if-writes.branch [
      | then-writes+in_ok-held w ↦
          given_more c.loop-pipe.pipe c.args.pipes.now c.args.node c.args.out.now
          c.args.held.now.items c.loop-pipe.held.items c.if-writes.held.items w.in_ok-held.field-0
          c.loop-pipe.invariant c.loop-pipe-test.true (c.writes.ensures.0 w.if-writes.true)
          (ap (λ v. v.items) w.held-is) w.in_ok-held.ensures.items
      | else-writes w ↦
          given_same c.loop-pipe.pipe c.args.pipes.now c.args.node c.args.out.now
          c.args.held.now.items c.loop-pipe.held.items c.if-writes.held.items c.loop-pipe.invariant
          (λ e. false≢true (sym w.if-writes.false ∙ c.writes.ensures.1 e))
          (ap (λ v. v.items) w.held-is)
    ]
