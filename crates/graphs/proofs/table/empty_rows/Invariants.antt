use Rattle.std.proofs.Common.{◌≡◌, ℕ, [], length}
use Rattle.graphs.specs.inner.Rows.{links_at}
use Rattle.graphs.proofs.table.empty_rows.Given as goal

abbrev pub invariant-loop : goal.invariant-loop
invariant-loop l = record {
  count : length l.rows.items ≡ l.counter;
  empty : (k : ℕ)
      → links_at l.rows.items k ≡ [];
}
