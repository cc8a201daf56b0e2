use Rattle.network_laws.proofs.lemmas.DeterminacyLaws.{outputs_determined}
use Rattle.network_laws.proofs.laws.outputs_are_determined.Goals as goal

pub returns : goal.returns
returns c = outputs_determined
