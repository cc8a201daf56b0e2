use Rattle.byte_filters.proofs.lemmas.WordLaws.{words_are_counted}
use Rattle.byte_filters.proofs.laws.words_are_counted.Goals as goal

pub returns : goal.returns
returns c = words_are_counted
