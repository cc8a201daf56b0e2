use Rattle.std.proofs.Common.{◌≡◌, ℕ, length, take}
use Rattle.graphs.specs.inner.Rows.{links_at}
use Rattle.graphs.specs.inner.Rows.{row}
use Rattle.graphs.proofs.table.table_of.Given as goal

abbrev pub invariant-loop-from : goal.invariant-loop-from
invariant-loop-from l = record {
  count : length l.rows.items ≡ l.count;
  rows : (k : ℕ)
      → links_at l.rows.items k ≡ row (take l.from-index l.ends) k;
}
