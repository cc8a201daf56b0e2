use Rattle.networks.proofs.BoundLaws.{nothing_spent}
use Rattle.networks.proofs.laws.nothing_spends_nothing.Goals as goal

pub returns : goal.returns
returns g c = nothing_spent g.M.Machine.shows
