use Rattle.std.proofs.Common.{◌≡◌, map, take}
use Rattle.network_nodes.specs.inner.Actors.{file_fault}
use Rattle.networks.proofs.faults.faults_of.Given as goal

abbrev pub invariant-loop-node : goal.invariant-loop-node
invariant-loop-node g l = l.by_node.items ≡ map file_fault (take l.node-index l.nodes)
