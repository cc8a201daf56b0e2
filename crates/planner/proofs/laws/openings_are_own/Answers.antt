use Rattle.planner.proofs.Opened.{openings_are_own}
use Rattle.planner.proofs.laws.openings_are_own.Goals as goal

pub returns : goal.returns
returns c = openings_are_own
