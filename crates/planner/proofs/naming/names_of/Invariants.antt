use Rattle.std.proofs.Common.{◌≡◌, take}
use Rattle.graphs.specs.NamesByPlace.{texts}
use Rattle.planner.proofs.naming.names_of.Given as goal

abbrev pub invariant-loop-word : goal.invariant-loop-word
invariant-loop-word l = texts l.names.items ≡ take l.word-index l.words
