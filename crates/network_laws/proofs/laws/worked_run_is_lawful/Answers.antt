use Rattle.network_laws.proofs.lemmas.WorkedLaws.{worked_run}
use Rattle.network_laws.proofs.laws.worked_run_is_lawful.Goals as goal

pub returns : goal.returns
returns c = worked_run
