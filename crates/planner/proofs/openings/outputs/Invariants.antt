use Rattle.std.proofs.Common.{◌≡◌, take}
use Rattle.std.specs.List.{flat_map}
use Rattle.planner.specs.Openings.{opened_ends, out_side}
use Rattle.planner.proofs.openings.outputs.Given as goal

abbrev pub invariant-loop-stage : goal.invariant-loop-stage
invariant-loop-stage l = l.opened.items ≡ flat_map (opened_ends (out_side l.fifos) l.names)
    (take l.stage-index l.stages)
