use Rattle.planner.proofs.Apart.{outputs_are_apart}
use Rattle.planner.proofs.laws.outputs_are_apart.Goals as goal

pub returns : goal.returns
returns c = outputs_are_apart
