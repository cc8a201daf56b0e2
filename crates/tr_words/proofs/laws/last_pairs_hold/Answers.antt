use Rattle.tr_words.proofs.lemmas.StringProofs.{last_pairs_hold}
use Rattle.tr_words.proofs.laws.last_pairs_hold.Goals as goal

pub returns : goal.returns
returns c = last_pairs_hold
