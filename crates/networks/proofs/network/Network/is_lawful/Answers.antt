use Rattle.networks.proofs.lemmas.Lawful.{is_lawful}
use Rattle.networks.proofs.network.Network.is_lawful.Goals as goal

pub returns : goal.returns
returns g c = λ s files r. is_lawful g.M.Machine.shows s c.args.self.now files r
