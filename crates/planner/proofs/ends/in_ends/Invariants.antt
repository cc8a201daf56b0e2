use Rattle.std.proofs.Common.{◌≡◌, take}
use Rattle.planner.specs.Ends.{all_ends}
use Rattle.planner.specs.Places.{in_places}
use Rattle.planner.proofs.ends.in_ends.Given as goal

abbrev pub invariant-loop-stage : goal.invariant-loop-stage
invariant-loop-stage l = l.ends.items ≡ all_ends (in_places l.fifos) (take l.stage-index l.stages)
