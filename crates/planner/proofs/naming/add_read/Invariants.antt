use Rattle.std.proofs.Common.{◌≡◌, ◌++◌, take}
use Rattle.std.specs.List.{filter}
use Rattle.graphs.specs.NamesByPlace.{texts}
use Rattle.planner.specs.Places.{is_operand}
use Rattle.planner.proofs.naming.add_read.Given as goal

abbrev pub invariant-loop-name : goal.invariant-loop-name
invariant-loop-name l = texts l.names.items ≡ texts l.initial.names.items ++ filter is_operand
    (take l.name-index l.name-items)
