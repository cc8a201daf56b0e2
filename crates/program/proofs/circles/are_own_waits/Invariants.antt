use Rattle.planner.specs.Planned.{graph_of}
use Rattle.program.proofs.lemmas.CircleLaws.{AreOwnUpTo}
use Rattle.program.proofs.circles.are_own_waits.Given as goal

abbrev pub invariant-loop-k : goal.invariant-loop-k
invariant-loop-k l = AreOwnUpTo (graph_of l.plan) l.waits l.k
