use Rattle.network_laws.proofs.FinishLaws.{done_outputs}
use Rattle.network_laws.proofs.laws.done_outputs_are_the_answer.Goals as goal

pub returns : goal.returns
returns c = done_outputs
