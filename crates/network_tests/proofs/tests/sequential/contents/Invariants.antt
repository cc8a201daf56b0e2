use Rattle.std.proofs.Common.{◌≡◌, length}
use Rattle.network_tests.proofs.tests.sequential.contents.Given as goal

abbrev pub invariant-loop : goal.invariant-loop
invariant-loop l = length l.contents.items ≡ l.counter
