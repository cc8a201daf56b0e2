use Rattle.std.proofs.Common.{length}
use Rattle.shards.proofs.division.+runs_nothing.Given as goal

abbrev pub decreases-runs_nothing : goal.decreases-runs_nothing
decreases-runs_nothing l = length l.stages.now
