use Rattle.std.proofs.Common.{◌≡◌, take}
use Rattle.graphs.specs.Graph.{present}
use Rattle.network_nodes.proofs.making.present_of.Given as goal

abbrev pub invariant-loop-branch : goal.invariant-loop-branch
invariant-loop-branch l = l.pipes.items ≡ present (take l.branch-index l.branches)
