use Rattle.std.proofs.Common.{length}
use Rattle.shards.proofs.same.+are_copying.Given as goal

abbrev pub decreases-are_copying : goal.decreases-are_copying
decreases-are_copying l = length l.stages.now
