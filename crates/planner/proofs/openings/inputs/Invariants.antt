use Rattle.std.proofs.Common.{◌≡◌, take}
use Rattle.std.specs.List.{flat_map}
use Rattle.planner.specs.Openings.{opened_ends, in_side}
use Rattle.planner.proofs.openings.inputs.Given as goal

abbrev pub invariant-loop-stage : goal.invariant-loop-stage
invariant-loop-stage l = l.opened.items ≡ flat_map (opened_ends (in_side l.fifos) l.names)
    (take l.stage-index l.stages)
