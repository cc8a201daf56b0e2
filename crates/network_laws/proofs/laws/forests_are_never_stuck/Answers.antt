use Rattle.network_laws.proofs.StuckLaws.{no_forest_stuck}
use Rattle.network_laws.proofs.laws.forests_are_never_stuck.Goals as goal

pub returns : goal.returns
returns c = no_forest_stuck
