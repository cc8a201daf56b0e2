use Rattle.folders.proofs.lemmas.Fronts.{fronts}
use Rattle.folders.proofs.fronts.each_front_is_old_or_whole.Goals as goal

pub returns : goal.returns
returns c = fronts
