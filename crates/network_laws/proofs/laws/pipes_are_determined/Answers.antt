use Rattle.network_laws.proofs.lemmas.DeterminacyLaws.{pipes_determined}
use Rattle.network_laws.proofs.laws.pipes_are_determined.Goals as goal

pub returns : goal.returns
returns c = pipes_determined
