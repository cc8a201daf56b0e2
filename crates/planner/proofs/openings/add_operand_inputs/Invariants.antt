use Rattle.std.proofs.Common.{◌≡◌, ◌++◌, take}
use Rattle.std.specs.List.{flat_map, enumerate_from}
use Rattle.planner.specs.Openings.{opened_operand, in_side}
use Rattle.planner.proofs.openings.add_operand_inputs.Given as goal

abbrev pub invariant-loop-input : goal.invariant-loop-input
invariant-loop-input l = l.opened.items ≡ l.initial.opened.items ++ flat_map
    (opened_operand (in_side l.fifos) l.nodes l.stage) (enumerate_from 0 (take l.input l.names))
