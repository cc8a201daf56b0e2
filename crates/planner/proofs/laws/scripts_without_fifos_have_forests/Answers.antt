use Rattle.planner.proofs.lemmas.Forests.{scripts_without_fifos_have_forests}
use Rattle.planner.proofs.laws.scripts_without_fifos_have_forests.Goals as goal

pub returns : goal.returns
returns c = scripts_without_fifos_have_forests
