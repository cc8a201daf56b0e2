use Rattle.network_laws.proofs.lemmas.WorkedLaws.{worked_stall}
use Rattle.network_laws.proofs.laws.worked_stall_is_stuck.Goals as goal

pub returns : goal.returns
returns c = worked_stall
