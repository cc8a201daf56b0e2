use Rattle.std.proofs.Common.{length}
use Rattle.shards.proofs.division.+divide_by_lines.Given as goal

abbrev pub decreases-divide_by_lines : goal.decreases-divide_by_lines
decreases-divide_by_lines l = length l.stages.now
