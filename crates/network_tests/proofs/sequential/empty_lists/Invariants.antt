use Rattle.std.proofs.Common.{◌≡◌, ℕ, [], length}
use Rattle.network_tests.specs.inner.Plans.{list_at}
use Rattle.network_tests.proofs.sequential.empty_lists.Given as goal

abbrev pub invariant-loop : goal.invariant-loop
invariant-loop l = record {
  count : length l.held.items ≡ l.counter;
  empty : (p : ℕ)
      → list_at l.held.items p ≡ [];
}
