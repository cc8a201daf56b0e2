use Rattle.network_laws.proofs.AnswerLaws.{answers_are_outputs}
use Rattle.network_laws.proofs.laws.answers_are_outputs.Goals as goal

pub returns : goal.returns
returns c = answers_are_outputs
