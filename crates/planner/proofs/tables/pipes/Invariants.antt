use Rattle.std.proofs.Common.{◌≡◌, ◌++◌, take}
use Rattle.std.specs.List.{flat_map}
use Rattle.planner.specs.Tables.{pipes_of_stage}
use Rattle.planner.proofs.tables.pipes.Given as goal

abbrev pub invariant-loop-stage : goal.invariant-loop-stage
invariant-loop-stage l = l.pipes.items ≡ l.initial.pipes.items ++ flat_map
    (pipes_of_stage l.ins l.outs) (take l.stage-index l.order)
