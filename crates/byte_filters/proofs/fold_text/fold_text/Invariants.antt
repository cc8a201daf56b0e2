use Rattle.std.proofs.Common.{◌-◌, length}
use Rattle.byte_filters.proofs.lemmas.FoldParts.{HasFolded}
use Rattle.byte_filters.proofs.fold_text.fold_text.Given as goal

abbrev pub invariant-parts : goal.invariant-parts
invariant-parts l = HasFolded l.spec l.bytes l.at l.fn.made l.made

abbrev pub decreases-parts : goal.decreases-parts
decreases-parts l = length l.bytes - l.at
