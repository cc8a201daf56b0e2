use Rattle.std.proofs.Common.{◌≤◌, ◌-◌, length, take, ℕ}
use Rattle.lanes.specs.inner.Walks.{Shows}
use Rattle.lanes.proofs.walk.next_marks.Given as goal

abbrev pub invariant-loop-left : goal.invariant-loop-left
invariant-loop-left l =
    (l.base ≤ length l.ahead)
    × ((from : ℕ) → Shows (take l.len l.ahead) l.byte from l.fn.base l.fn.left
    → Shows (take l.len l.ahead) l.byte from l.base l.left)

abbrev pub decreases-loop-left : goal.decreases-loop-left
decreases-loop-left l = length l.ahead - l.base
