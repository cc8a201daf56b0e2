use Rattle.network_laws.proofs.FinishLaws.{status_fixed}
use Rattle.network_laws.proofs.laws.the_status_is_fixed.Goals as goal

pub returns : goal.returns
returns c = status_fixed
