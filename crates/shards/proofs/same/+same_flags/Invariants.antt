use Rattle.std.proofs.Common.{length}
use Rattle.shards.proofs.same.+same_flags.Given as goal

abbrev pub decreases-same_flags : goal.decreases-same_flags
decreases-same_flags l = length l.flags.now
