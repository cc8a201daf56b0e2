use Rattle.planner.proofs.Sized.{stages_are_sized}
use Rattle.planner.proofs.laws.stages_are_sized.Goals as goal

pub returns : goal.returns
returns c = stages_are_sized
