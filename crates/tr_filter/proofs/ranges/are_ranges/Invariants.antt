use Rattle.std.proofs.Common.{◌≡◌, ℕ, ◌<◌, get_or}
use Rattle.tr_filter.specs.Ranges.{becomes}
use Rattle.tr_filter.proofs.ranges.are_ranges.Given as goal

abbrev pub invariant-loop-index : goal.invariant-loop-index
invariant-loop-index l = (x : ℕ) → x < l.index → get_or l.table x 0 ≡ becomes l.ranges x
