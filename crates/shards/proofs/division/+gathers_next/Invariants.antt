use Rattle.std.proofs.Common.{length}
use Rattle.shards.proofs.division.+gathers_next.Given as goal

abbrev pub decreases-gathers_next : goal.decreases-gathers_next
decreases-gathers_next l = length l.stages.now
