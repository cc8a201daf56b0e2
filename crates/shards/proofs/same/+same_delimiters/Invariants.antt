use Rattle.std.proofs.Common.{length}
use Rattle.shards.proofs.same.+same_delimiters.Given as goal

abbrev pub decreases-same_delimiters : goal.decreases-same_delimiters
decreases-same_delimiters l = length l.delimiters.now
