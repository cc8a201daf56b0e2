use Rattle.std.proofs.Common.{take}
use Rattle.planner.specs.Planned.{graph_of}
use Rattle.network_tests.proofs.lemmas.OwnFiles.{AreOwnBelow}
use Rattle.network_tests.proofs.tests.circles.are_own.Given as goal

abbrev pub invariant-loop-wait : goal.invariant-loop-wait
invariant-loop-wait l = AreOwnBelow (graph_of l.plan) (take l.wait-index l.waits) l.above
