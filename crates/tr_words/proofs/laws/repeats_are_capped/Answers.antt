use Rattle.tr_words.proofs.lemmas.StringProofs.{repeats_are_capped}
use Rattle.tr_words.proofs.laws.repeats_are_capped.Goals as goal

pub returns : goal.returns
returns c = repeats_are_capped
