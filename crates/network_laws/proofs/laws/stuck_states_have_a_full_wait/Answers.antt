use Rattle.network_laws.proofs.StuckLaws.{some_full}
use Rattle.network_laws.proofs.laws.stuck_states_have_a_full_wait.Goals as goal

pub returns : goal.returns
returns c = some_full
