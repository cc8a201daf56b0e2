use Rattle.network_laws.proofs.lemmas.StartLaws.{new_lawful}
use Rattle.network_laws.proofs.laws.new_networks_are_lawful.Goals as goal

pub returns : goal.returns
returns c = new_lawful
