use Rattle.std.proofs.Common.{take}
use Rattle.graphs.specs.NamesByPlace.{texts}
use Rattle.graphs.specs.Uses.{IsTally}
use Rattle.graphs.proofs.uses.tally.Given as goal

abbrev pub invariant-loop-name : goal.invariant-loop-name
invariant-loop-name l = IsTally (texts (take l.name-index l.names)) l.counts
