use Rattle.std.proofs.Common.{◌≡◌, ◌≤◌, List}
use Rattle.collector.specs.Files.{FilesShown}
use Rattle.network_laws.specs.Steps.{done_below}
use Rattle.network_nodes.specs.declared.actor.Link.{Link}
use Rattle.networks.specs.Networks.{state_by}
use Rattle.networks.proofs.turns.done_of.Given as goal

abbrev pub invariant-loop-node : goal.invariant-loop-node
invariant-loop-node g l = (l.done ≤ l.node) × ((pipes : List Link) (files : FilesShown)
    → l.done ≡ done_below l.node (state_by g.M.Machine.shows l.nodes pipes files))
