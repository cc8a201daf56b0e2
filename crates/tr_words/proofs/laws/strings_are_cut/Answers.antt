use Rattle.tr_words.proofs.lemmas.StringProofs.{strings_are_cut}
use Rattle.tr_words.proofs.laws.strings_are_cut.Goals as goal

pub returns : goal.returns
returns c = strings_are_cut
