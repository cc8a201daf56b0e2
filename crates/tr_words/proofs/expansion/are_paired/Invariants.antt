use Rattle.std.proofs.Common.{◌≡◌, length}
use Rattle.tr_words.specs.Expansions.{are_paired}
use Rattle.tr_words.proofs.expansion.are_paired.Given as goal

abbrev pub invariant-classes : goal.invariant-classes
invariant-classes l = are_paired l.first l.rest ≡ are_paired l.first l.second

abbrev pub decreases-classes : goal.decreases-classes
decreases-classes l = length l.rest
