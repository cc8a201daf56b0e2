use Rattle.std.proofs.Common.{◌≡◌, length}
use Rattle.tr_words.specs.Strings.{elements}
use Rattle.tr_words.proofs.lemmas.ElementLaws.{then_elements}
use Rattle.tr_words.proofs.element.elements.Given as goal

abbrev pub invariant-loop-found : goal.invariant-loop-found
invariant-loop-found l = then_elements l.elements.items (elements l.rest) ≡ elements l.string

abbrev pub decreases-loop-found : goal.decreases-loop-found
decreases-loop-found l = length l.rest
