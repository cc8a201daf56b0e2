use Rattle.std.proofs.Common.{◌≡◌, map, take}
use Rattle.graphs.specs.NamesByPlace.{texts}
use Rattle.graphs.specs.Uses.{uses_of}
use Rattle.graphs.proofs.uses.count_uses.Given as goal

abbrev pub invariant-loop-name : goal.invariant-loop-name
invariant-loop-name l = l.uses.items
    ≡ map (uses_of (texts l.fn.made) (texts l.fn.read) (texts l.fn.written))
    (texts (take l.name-index l.name-items))
