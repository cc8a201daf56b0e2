use Rattle.std.proofs.Common.{◌≡◌, map, take}
use Rattle.graphs.specs.Graph.{Graph}
use Rattle.networks.specs.Networks.{joins}
use Rattle.networks.specs.Turns.{waits_from}
use Rattle.networks.proofs.turns.waits_of.Given as goal

abbrev pub invariant-loop-answer : goal.invariant-loop-answer
invariant-loop-answer l = (l.node ≡ l.answer-index)
    × ((g : Graph) → map joins l.pipes ≡ g.pipes
    → l.waits.items ≡ waits_from g 0 (take l.answer-index l.answers))
