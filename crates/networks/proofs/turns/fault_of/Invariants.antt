use Rattle.std.proofs.Common.{◌≡◌, ℕ, ◌<◌}
use Rattle.network_laws.specs.State.{IsFailed}
use Rattle.network_nodes.specs.inner.Actors.{actor_at, node_state_at}
use Rattle.networks.proofs.turns.fault_of.Given as goal

abbrev pub invariant-loop-node : goal.invariant-loop-node
invariant-loop-node g l = (l.faults ≡ l.fn.faults)
    × ((k : ℕ) → k < l.node → IsFailed (node_state_at (actor_at l.nodes k)) → ⊥)
