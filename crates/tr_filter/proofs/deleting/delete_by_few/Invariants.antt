use Rattle.std.proofs.Common.{◌≡◌, ◌<◌, ◌≤◌, ◌-◌, length}
use Rattle.tr_filter.specs.inner.Progress.{Thinned}
use Rattle.tr_filter.proofs.deleting.delete_by_few.Given as goal

abbrev pub invariant-loop-at : goal.invariant-loop-at
invariant-loop-at l =
    (l.kept ≤ l.at) × (l.at ≤ length l.bytes) × (length l.bytes ≡ length l.fn.bytes)
    × Thinned l.deleting.spec l.fn.bytes l.bytes l.kept l.at × (0 < l.stretch)

abbrev pub decreases-loop-at : goal.decreases-loop-at
decreases-loop-at l = length l.fn.bytes - l.at
