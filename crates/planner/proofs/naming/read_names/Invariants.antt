use Rattle.std.proofs.Common.{◌≡◌, take}
use Rattle.std.specs.List.{flat_map}
use Rattle.graphs.specs.NamesByPlace.{texts}
use Rattle.planner.specs.Places.{read_names}
use Rattle.planner.proofs.naming.read_names.Given as goal

abbrev pub invariant-loop-stage : goal.invariant-loop-stage
invariant-loop-stage l = texts l.names.items ≡ flat_map read_names (take l.stage-index l.stages)
