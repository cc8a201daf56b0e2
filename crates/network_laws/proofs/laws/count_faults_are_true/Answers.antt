use Rattle.network_laws.proofs.FinishLaws.{count_fault}
use Rattle.network_laws.proofs.laws.count_faults_are_true.Goals as goal

pub returns : goal.returns
returns c = count_fault
