use Rattle.std.proofs.Common.{◌≡◌}
use Rattle.network_tests.proofs.tests.runs.Running.moved.Given as goal

abbrev pub invariant-loop-node : goal.invariant-loop-node
invariant-loop-node l = l.self ≡ l.fn.self
