use Rattle.std.proofs.Common.{length}
use Rattle.shards.proofs.same.+same_ranges.Given as goal

abbrev pub decreases-same_ranges : goal.decreases-same_ranges
decreases-same_ranges l = length l.ranges.now
