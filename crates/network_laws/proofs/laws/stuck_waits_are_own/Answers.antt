use Rattle.network_laws.proofs.CircleLaws.{stuck_waits_are_own}
use Rattle.network_laws.proofs.laws.stuck_waits_are_own.Goals as goal

pub returns : goal.returns
returns c = stuck_waits_are_own
