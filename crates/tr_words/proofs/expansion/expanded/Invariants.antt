use Rattle.std.proofs.Common.{length}
use Rattle.tr_words.proofs.lemmas.ExpansionLaws.{HasExpanded}
use Rattle.tr_words.proofs.expansion.expanded.Given as goal

abbrev pub invariant-elements : goal.invariant-elements
invariant-elements l = HasExpanded l.needed l.elements l.rest l.bytes.items l.classes.items

abbrev pub decreases-elements : goal.decreases-elements
decreases-elements l = length l.rest
