-- The counter of failures goes on, whatever the graph of the network is.
use Rattle.std.proofs.Common.{◌≡◌, ◌≢◌, ℕ, ◌<◌, map, length, refl, sym, ◌∙◌, subst, ⊎_elim, arith}
use Rattle.std.proofs.lemmas.Bool.{cases_eq}
use Rattle.std.specs.Prelude.{false}
use Rattle.std.proofs.lemmas.List.{length-map}
use Rattle.machine.specs.Law.{Shown}
use Rattle.collector.specs.Files.{FilesShown}
use Rattle.graphs.specs.Graph.{Graph, GraphNode, Sink}
use Rattle.collector.specs.Nodes.{failures_after}
use Rattle.run_types.specs.declared.node_state.NodeState.{NodeState}
use Rattle.run_types.specs.declared.node_state.NodeState.TheVariants.{Running, Ended, Broken}
use Rattle.run_types.specs.declared.node_state.NodeState.TheVariants.{Failed}
use Rattle.network_laws.specs.State.{Part, node_state_of, IsFailed}
use Rattle.network_laws.specs.Steps.{IsStep, SameState}
use Rattle.network_nodes.specs.declared.actor.Actor.{Actor}
use Rattle.network_nodes.specs.declared.actor.Actor.TheVariants as an
use Rattle.network_nodes.specs.inner.Actors.{actor_at, node_state_at}
use Rattle.networks.specs.Networks.{Networked, joins, IsOf, part_of, network_state}
use Rattle.networks.specs.Turns.{Reaches, NoneFailed}
use Rattle.networks.proofs.FailureLaws.{reaches_after}

module _ {M : Type 0} where
  -- a graph with these tables
  abbrev some_node : Actor M → GraphNode
  some_node a = Sink

  abbrev some_graph : Networked M → Graph
  some_graph n = record {
    nodes = map some_node n.nodes;
    pipes = map joins n.pipes;
    result =
        (0, false);
  }

  is_of : (n : Networked M) → IsOf (some_graph n) n
  is_of n = record { count = sym (length-map n.nodes some_node); pipes = refl }

  pub step_reaches : (shows : M → Shown) (k : ℕ) (n m : Networked M) (old new : FilesShown)
      → ((g : Graph) → IsOf g n → IsStep g k (network_state shows n old)
      (network_state shows m new) old.failures new.failures) → (before : ℕ)
      → Reaches before old.failures → Reaches before new.failures
  step_reaches shows k n m old new step before h =
      let t = step (some_graph n) (is_of n) in
      subst (Reaches before) (sym t.failures) (reaches_after before _ _ old.failures h)

-- a counter does not rise if the node has not failed
after_sound : (x y : NodeState) (failures : ℕ) → (IsFailed y → ⊥)
    → failures_after x y failures ≡ failures
after_sound Running Running failures sound = refl
after_sound Running Ended failures sound = refl
after_sound Running Broken failures sound = refl
after_sound Running (Failed fault) failures sound = absurd (sound tt)
after_sound Ended y failures sound = refl
after_sound Broken y failures sound = refl
after_sound (Failed fault) y failures sound = refl

-- a node that has failed does not run
failed_halts : (state : NodeState) → IsFailed state → state ≢ Running
failed_halts Running f e = f
failed_halts (Failed fault) f e = subst IsFailed e f
failed_halts _ f e = absurd f

module _ {M : Type 0} (shows : M → Shown) where
  -- the state of a node
  part_in_state : (n : Networked M) (files : FilesShown) (k : ℕ)
      → node_state_of ((network_state shows n files).part k) ≡ node_state_at (actor_at n.nodes k)
  part_in_state n files k = by_case (actor_at n.nodes k)
    where
      by_case : (a : Actor M) → node_state_of (part_of shows files a) ≡ node_state_at a
      by_case (an.Source x) = refl
      by_case (an.Stage t) = refl
      by_case (an.Sink y) = refl
      by_case an.Lent = refl

  -- if no node has failed after a step, none had before, and no read or write failed
  pub step_sound : (k : ℕ) (n m : Networked M) (old new : FilesShown)
      → length m.nodes ≡ length n.nodes → k < length n.nodes
      → ((g : Graph) → IsOf g n → IsStep g k (network_state shows n old)
      (network_state shows m new) old.failures new.failures) → NoneFailed m
      → NoneFailed n × (new.failures ≡ old.failures)
  step_sound k n m old new count within step sound =
      let t = step (some_graph n) (is_of n) in
      let a = network_state shows n old in
      let b = network_state shows m new in
      let of = is_of n in
      let sound_b : (j : ℕ) → j < length n.nodes → IsFailed (node_state_of (b.part j))
      → ⊥ = λ j lt bad. sound j (omega (arith, lt, count))
      (subst IsFailed (part_in_state m new j) bad) in (
        λ j lt bad.
            let was : IsFailed (node_state_of (a.part j)) =
            subst IsFailed (sym (part_in_state n old j)) bad in
            ⊎_elim
            (λ (e : j ≡ k).
            let halts = failed_halts (node_state_of (a.part k))
            (subst (λ (i : ℕ). IsFailed (node_state_of (a.part i))) e was) in
            let same : SameState a b = t.halted halts in
            sound_b j lt (subst (λ (x : Part). IsFailed (node_state_of x))
            (sym (same.parts j)) was))
            (λ (ne : j ≢ k). sound_b j lt
            (subst (λ (x : Part). IsFailed (node_state_of x))
            (sym (t.others j (omega (arith, lt, of.count)) ne)) was))
            (cases_eq j k),
        t.failures ∙ after_sound (node_state_of (a.part k)) (node_state_of (b.part k)) old.failures
            (sound_b k within),
      )
