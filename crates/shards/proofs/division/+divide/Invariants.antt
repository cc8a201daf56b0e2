use Rattle.std.proofs.Common.{length}
use Rattle.shards.proofs.division.+divide.Given as goal

abbrev pub decreases-divide : goal.decreases-divide
decreases-divide l = length l.stages.now
