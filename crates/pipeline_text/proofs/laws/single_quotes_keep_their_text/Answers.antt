use Rattle.pipeline_text.proofs.lemmas.Kept.{kept}
use Rattle.pipeline_text.proofs.laws.single_quotes_keep_their_text.Goals as goal

pub returns : goal.returns
returns c = kept
