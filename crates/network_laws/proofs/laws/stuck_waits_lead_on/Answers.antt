use Rattle.network_laws.proofs.StuckLaws.{waits_lead_on}
use Rattle.network_laws.proofs.laws.stuck_waits_lead_on.Goals as goal

pub returns : goal.returns
returns c = waits_lead_on
