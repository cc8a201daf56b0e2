use Rattle.network_laws.proofs.lemmas.WorkedLaws.{worked_answers}
use Rattle.network_laws.proofs.laws.worked_answers_are_right.Goals as goal

pub returns : goal.returns
returns c = worked_answers
