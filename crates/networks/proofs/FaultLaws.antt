-- The faults that nodes may have for their files, and whether one has failed.
use Rattle.std.proofs.Common.{◌≡◌, ℕ, zero, suc, ◌<◌, List, [], ◌∷◌, Option, Some, None, length}
use Rattle.std.proofs.Common.{map, get_or, refl, sym, ap, ap₂, ◌∙◌, inl, inr, ⊎_elim, arith}
use Rattle.std.specs.Prelude.{◌⊎◌, option_map, slice_get}
use Rattle.std.proofs.lemmas.Option.{slice_get-map, slice_get-get_or}
use Rattle.collector.specs.declared.fault.RunFault.{RunFault}
use Rattle.collector.specs.declared.fault.RunFault.TheVariants as named
use Rattle.run_types.specs.declared.names.InName.{InName}
use Rattle.run_types.specs.declared.names.OutName.{OutName}
use Rattle.run_types.specs.declared.node_state.NodeState.{NodeState}
use Rattle.run_types.specs.declared.node_state.NodeState.TheVariants.{Running, Ended, Broken}
use Rattle.run_types.specs.declared.node_state.NodeState.TheVariants.{Failed}
use Rattle.network_laws.specs.State.{IsFailed}
use Rattle.network_nodes.specs.declared.actor.Actor.{Actor}
use Rattle.network_nodes.specs.declared.actor.Actor.TheVariants as an
use Rattle.network_nodes.specs.inner.Actors.{actor_at, node_state_at, file_fault}
use Rattle.networks.specs.declared.faults.FileFaults.{FileFaults}
use Rattle.networks.specs.Networks.{Face, Networked, SameActor, IsNetwork, in_name, out_name}
use Rattle.networks.specs.Turns.{AreFaultsOf, HasFailed, NoneFailed, AnyFailed}

-- the fault of a file, by the names of a node
of_names : Option InName → Option OutName → Option RunFault
of_names (Some name) out = Some (named.ReadFault name)
of_names None (Some name) = Some (named.WriteFault name)
of_names None None = None

of_source : (name : Option InName) → option_map (λ n. named.ReadFault n) name ≡ of_names name None
unfolding of_names
of_source (Some name) = refl
of_source None = refl

-- a state is that of a node that has failed, or not
failed_state : (s : NodeState) → (IsFailed s → ⊥) ⊎ IsFailed s
failed_state Running = inl (λ f. f)
failed_state Ended = inl (λ f. f)
failed_state Broken = inl (λ f. f)
failed_state (Failed fault) = inr tt

module _ {M : Type 0} where
  by_names : (a : Actor M) → file_fault a ≡ of_names (in_name a) (out_name a)
  unfolding of_names
  by_names (an.Source x) = of_source x.name
  by_names (an.Stage t) = refl
  by_names (an.Sink y) = refl
  by_names an.Lent = refl

  -- a node keeps its names, and so the fault that it may have
  same_fault : (a b : Actor M) → SameActor a b → file_fault b ≡ file_fault a
  same_fault a b same = by_names b
      ∙ (ap (λ (f : Face). of_names f.in_name f.out_name) same ∙ sym (by_names a))

  same_faults : (old new : List (Actor M)) → length new ≡ length old
      → ((k : ℕ) → SameActor (actor_at old k) (actor_at new k))
      → map file_fault new ≡ map file_fault old
  same_faults [] [] e all = refl
  same_faults (a ∷ rest) (b ∷ bs) e all =
      ap₂ (λ (x : Option RunFault) (xs : List (Option RunFault)). x ∷ xs) (same_fault a b (all 0))
      (same_faults rest bs (let s : length bs ≡ length rest = omega (arith, e) in
      s) (λ k. all (suc k)))
  same_faults _ _ e all = absurd (omega (arith, e))

  -- the faults that the nodes of a network may have stay, whatever steps and rounds it makes
  pub faults_kept : (R : ℕ → ℕ → Type 0) (old new : Networked M) (faults : FileFaults)
      → IsNetwork R old new → AreFaultsOf old.nodes faults → AreFaultsOf new.nodes faults
  faults_kept R old new faults same are = are
      ∙ sym (same_faults old.nodes new.nodes same.count same.nodes)

  -- the fault of the node that was read
  pub fault_at_node : (nodes : List (Actor M)) (faults : FileFaults) → AreFaultsOf nodes faults
      → (k : ℕ) (a : Actor M) → k < length nodes → a ≡ get_or nodes k a
      → slice_get faults.by_node.items k ≡ Some (file_fault a)
  fault_at_node nodes faults are k a lt at =
      ap (λ (xs : List (Option RunFault)). slice_get xs k) are
      ∙ (slice_get-map file_fault nodes k
      ∙ ap (λ (o : Option (Actor M)). option_map file_fault o) (slice_get-get_or nodes k a lt
      ∙ ap (λ (b : Actor M). Some b) (sym at)))

  -- no node has failed, or one has
  none_or_any : (nodes : List (Actor M))
      → ((k : ℕ) → k < length nodes → IsFailed (node_state_at (actor_at nodes k)) → ⊥)
      ⊎ HasFailed nodes
  none_or_any [] = inl (λ k lt f. absurd (omega (arith, lt)))
  none_or_any (a ∷ rest) = ⊎_elim
      (λ sound. ⊎_elim
      (λ none. inl (λ k. elim k as (λ j. j < length (a ∷ rest)
      → IsFailed (node_state_at (actor_at (a ∷ rest) j)) → ⊥) [
        | zero ↦ λ lt f. sound f
        | suc j ↦
            λ lt f. none j (let l : j < length rest = omega (arith, lt) in l) f
      ]))
      (λ any. inr (suc any.0, (let l = any.1 in omega (arith, l)), any.2))
      (none_or_any rest))
      (λ bad. inr (0, omega arith, bad))
      (failed_state (node_state_at a))

  pub failed_or_not : (n : Networked M) → NoneFailed n ⊎ AnyFailed n
  failed_or_not n = none_or_any n.nodes
