use Rattle.std.proofs.Common.{◌≡◌, ◌≤◌, ℕ, List, length}
use Rattle.tr_filter.specs.inner.Progress.{Thinned}
use Rattle.tr_filter.proofs.deleting.delete_part.Given as goal

abbrev pub invariant-loop-i : goal.invariant-loop-i
invariant-loop-i l =
    (l.kept ≤ l.i) × (length l.bytes ≡ length l.fn.bytes)
    × ((xs : List ℕ) → length l.fn.bytes ≡ length xs
    → Thinned l.deleting.spec xs l.fn.bytes l.fn.kept l.fn.from
    → Thinned l.deleting.spec xs l.bytes l.kept l.i)
