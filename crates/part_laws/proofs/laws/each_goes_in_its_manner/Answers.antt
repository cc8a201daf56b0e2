use Rattle.part_laws.proofs.lemmas.MannerLaws.{each_goes}
use Rattle.part_laws.proofs.laws.each_goes_in_its_manner.Goals as goal

pub returns : goal.returns
returns c = each_goes
