use Rattle.std.proofs.Common.{length}
use Rattle.shards.proofs.division.+needs_whole.Given as goal

abbrev pub decreases-needs_whole : goal.decreases-needs_whole
decreases-needs_whole l = length l.stages.now
