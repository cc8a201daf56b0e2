use Rattle.std.proofs.Common.{◌≤◌}
use Rattle.tr_filter.proofs.ranges.ranges_in.Given as goal

abbrev pub invariant-loop-index : goal.invariant-loop-index
invariant-loop-index l = l.count ≤ 4
