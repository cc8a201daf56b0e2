use Rattle.std.proofs.Common.{◌≡◌, ◌++◌, map, take}
use Rattle.planner.specs.Places.{input_place}
use Rattle.planner.proofs.ends.in_places.Given as goal

abbrev pub invariant-loop-name : goal.invariant-loop-name
invariant-loop-name l = l.places.items ≡ l.initial.places.items ++ map (input_place l.fifos l.stage)
    (take l.name-index l.names)
