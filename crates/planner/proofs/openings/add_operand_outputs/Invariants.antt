use Rattle.std.proofs.Common.{◌≡◌, ◌++◌, take}
use Rattle.std.specs.List.{flat_map, enumerate_from}
use Rattle.planner.specs.Openings.{opened_operand, out_side}
use Rattle.planner.proofs.openings.add_operand_outputs.Given as goal

abbrev pub invariant-loop-operand : goal.invariant-loop-operand
invariant-loop-operand l = l.opened.items ≡ l.initial.opened.items ++ flat_map
    (opened_operand (out_side l.fifos) l.nodes l.stage)
    (enumerate_from l.first (take l.operand l.names))
