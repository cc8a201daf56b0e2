use Rattle.std.proofs.Common.{◌≡◌, ◌++◌, take}
use Rattle.graphs.specs.NamesByPlace.{texts}
use Rattle.planner.proofs.naming.add_written.Given as goal

abbrev pub invariant-loop-name : goal.invariant-loop-name
invariant-loop-name l = texts l.names.items ≡ texts l.initial.names.items
    ++ take l.name-index l.name-items
