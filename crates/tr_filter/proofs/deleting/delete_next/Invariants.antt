use Rattle.std.proofs.Common.{◌≡◌, ◌≤◌, ◌-◌, ℕ, List, length}
use Rattle.tr_filter.specs.inner.Progress.{Thinned}
use Rattle.tr_filter.proofs.deleting.delete_next.Given as goal

abbrev pub invariant-loop-at : goal.invariant-loop-at
invariant-loop-at l =
    (l.kept ≤ l.at) × (l.at ≤ l.to) × (length l.bytes ≡ length l.fn.bytes)
    × ((xs : List ℕ) → length l.fn.bytes ≡ length xs
    → Thinned l.deleting.spec xs l.fn.bytes l.fn.kept l.fn.from
    → Thinned l.deleting.spec xs l.bytes l.kept l.at)

abbrev pub decreases-loop-at : goal.decreases-loop-at
decreases-loop-at l = l.to - l.at
