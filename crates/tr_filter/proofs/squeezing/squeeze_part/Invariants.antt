use Rattle.std.proofs.Common.{◌≡◌, ◌≤◌, ℕ, List, Option, Some, length}
use Rattle.tr_filter.specs.inner.Progress.{Pressed}
use Rattle.tr_filter.proofs.squeezing.squeeze_part.Given as goal

abbrev pub invariant-loop-i : goal.invariant-loop-i
invariant-loop-i l =
    (l.kept ≤ l.i) × (length l.bytes ≡ length l.fn.bytes)
    × ((before : Option ℕ) (xs : List ℕ) → length l.fn.bytes ≡ length xs
    → Pressed (Some l.set) before xs l.fn.bytes l.fn.kept l.fn.from l.fn.last
    → Pressed (Some l.set) before xs l.bytes l.kept l.i l.last)
