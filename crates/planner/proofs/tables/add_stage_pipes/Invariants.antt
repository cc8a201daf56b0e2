use Rattle.std.proofs.Common.{◌≡◌, ◌++◌, take}
use Rattle.planner.specs.Tables.{pipes_of_stage}
use Rattle.planner.proofs.tables.add_stage_pipes.Given as goal

abbrev pub invariant-loop-out : goal.invariant-loop-out
invariant-loop-out l = l.pipes.items ≡ l.initial.pipes.items ++ pipes_of_stage l.ins
    (take l.out-index l.outs) l.stage
