use Rattle.std.proofs.Common.{take}
use Rattle.graphs.specs.NamesByPlace.{texts, KnowsPlaces}
use Rattle.graphs.proofs.names.first_places.Given as goal

abbrev pub invariant-loop-i : goal.invariant-loop-i
invariant-loop-i l = KnowsPlaces (texts (take l.i l.names)) l.places
