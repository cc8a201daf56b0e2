use Rattle.planner.proofs.Plans.{plans_are_wired}
use Rattle.planner.proofs.laws.plans_are_wired.Goals as goal

pub returns : goal.returns
returns c = plans_are_wired
