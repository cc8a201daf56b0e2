use Rattle.std.proofs.Common.{length}
use Rattle.shards.proofs.same.+after_alike.Given as goal

abbrev pub decreases-after_alike : goal.decreases-after_alike
decreases-after_alike l = length l.others.now
