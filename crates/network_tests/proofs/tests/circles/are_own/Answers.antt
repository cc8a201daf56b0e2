use Rattle.std.proofs.Common.{false, arith}
use Rattle.network_laws.specs.declared.outcome.Waiting.{Waiting}
use Rattle.planner.specs.Planned.{graph_of}
use Rattle.network_tests.proofs.lemmas.OwnFiles.{own_more}
use Rattle.network_tests.proofs.tests.circles.are_own.Goals as goal

pub loop-wait-preserved : goal.loop-wait-preserved
loop-wait-preserved c =
    let d : Waiting = record { node = 0; pipe = 0; full = false } in
    let own = c.is_own.ensures in
    let yes = c.if-not-is_own.false in
    own_more (graph_of c.args.plan.now) c.args.waits.now c.loop-wait.wait-index d c.loop-wait.above
    c.loop-wait-test.true c.loop-wait.invariant (omega (arith, c.if-wait-above.false))
    (own.node yes) (own.pipe yes) (own.own yes)
