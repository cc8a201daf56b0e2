use Rattle.std.proofs.Common.{◌≡◌, ◌++◌, map, take}
use Rattle.std.specs.List.{filter}
use Rattle.planner.specs.declared.plan.NodeName.TheVariants.{StageAt}
use Rattle.planner.specs.Ends.{meets}
use Rattle.planner.specs.Tables.{pipe_to}
use Rattle.planner.proofs.tables.add_branch_pipes.Given as goal

abbrev pub invariant-loop-input : goal.invariant-loop-input
invariant-loop-input l = l.pipes.items ≡ l.initial.pipes.items ++ map
    (pipe_to (StageAt l.out.stage) l.out.number) (filter (meets l.out) (take l.input-index l.ins))
