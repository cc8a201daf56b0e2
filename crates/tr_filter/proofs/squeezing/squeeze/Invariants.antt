use Rattle.std.proofs.Common.{◌≡◌, ◌≤◌, ◌-◌, Some, length}
use Rattle.tr_filter.specs.inner.Progress.{Pressed}
use Rattle.tr_filter.proofs.squeezing.squeeze.Given as goal

abbrev pub invariant-loop-at : goal.invariant-loop-at
invariant-loop-at l =
    (l.kept ≤ l.at) × (l.at ≤ l.len) × (length l.bytes ≡ length l.fn.bytes)
    × Pressed (Some l.squeezing.set) l.fn.last l.fn.bytes l.bytes l.kept l.at l.last

abbrev pub decreases-loop-at : goal.decreases-loop-at
decreases-loop-at l = l.len - l.at
