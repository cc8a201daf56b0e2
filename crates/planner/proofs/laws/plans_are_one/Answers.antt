use Rattle.planner.proofs.lemmas.Single.{plans_are_one}
use Rattle.planner.proofs.laws.plans_are_one.Goals as goal

pub returns : goal.returns
returns c = plans_are_one
