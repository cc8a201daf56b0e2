use Rattle.std.proofs.Common.{length, ◌-◌}
use Rattle.line_filters.specs.inner.Ranges.{IsPassed}
use Rattle.line_filters.proofs.ranges.Ranges.next_range.Given as goal

abbrev pub invariant-loop-passed : goal.invariant-loop-passed
invariant-loop-passed l = IsPassed l.self.ranges.items l.passed l.n

abbrev pub decreases-loop-passed : goal.decreases-loop-passed
decreases-loop-passed l = length l.self.ranges.items - l.passed
