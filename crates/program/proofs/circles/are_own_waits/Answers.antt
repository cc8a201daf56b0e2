use Rattle.std.proofs.Common.{arith}
use Rattle.planner.specs.Planned.{graph_of}
use Rattle.program.proofs.lemmas.CircleLaws.{own_waits}
use Rattle.program.proofs.circles.are_own_waits.Goals as goal

pub returns : goal.returns
returns c said = own_waits (graph_of c.args.plan.now) c.args.waits.now c.loop-k.k
    (omega (arith, c.loop-k-test.false)) c.loop-k.invariant
