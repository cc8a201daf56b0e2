use Rattle.network_laws.proofs.CircleLaws.{stuck_waits_meet_circle}
use Rattle.network_laws.proofs.laws.stuck_waits_meet_a_circle.Goals as goal

pub returns : goal.returns
returns c = stuck_waits_meet_circle
