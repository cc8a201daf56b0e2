use Rattle.std.proofs.Common.{◌≡◌, ◌≤◌, ◌<◌, ◌+◌, ◌-◌, ℕ, false, length, get_or}
use Rattle.commands.specs.Selections.{is_selected}
use Rattle.line_filters.proofs.ranges.Ranges.low_numbers.Given as goal

abbrev pub invariant-loop-at : goal.invariant-loop-at
invariant-loop-at l =
    (l.at ≤ 64) × (length l.low ≡ 64) × ((k : ℕ) → k < l.at
    → get_or l.low k false ≡ is_selected l.ranges (k + 1))

abbrev pub decreases-loop-at : goal.decreases-loop-at
decreases-loop-at l = 64 - l.at
