-- The states of the nodes below a number.
use Rattle.std.proofs.Common.{◌≡◌, ℕ, ◌+◌, ◌<◌, List, true, false, get_or, length, refl, ap, ap₂}
use Rattle.std.proofs.Common.{◌∙◌, sym, subst, add-one}
use Rattle.std.proofs.lemmas.Bool.{false≢true}
use Rattle.std.proofs.lemmas.List.{get_or_default}
use borrow.Author.Count.{below_more}
use Rattle.machine.specs.Law.{Shown}
use Rattle.collector.specs.Files.{FilesShown}
use Rattle.collector.specs.Nodes.{is_failed}
use Rattle.collector.specs.declared.fault.RunFault.{RunFault}
use Rattle.run_types.specs.declared.node_state.NodeState.{NodeState}
use Rattle.run_types.specs.declared.node_state.NodeState.TheVariants.{Running, Ended, Broken}
use Rattle.run_types.specs.declared.node_state.NodeState.TheVariants.{Failed}
use Rattle.network_laws.specs.State.{node_state_of, IsFailed}
use Rattle.network_laws.specs.Steps.{is_done, done_below}
use Rattle.network_nodes.specs.declared.actor.Actor.{Actor}
use Rattle.network_nodes.specs.declared.actor.Actor.TheVariants as an
use Rattle.network_nodes.specs.declared.actor.Link.{Link}
use Rattle.network_nodes.specs.inner.Actors.{actor_at, node_state_at, IsFaultAt}
use Rattle.networks.specs.Networks.{part_of, state_by}
use Rattle.networks.specs.Turns.{IsFaultOf}
use Rattle.networks.proofs.Progress.{bit_of}

not_failed : (s : NodeState) → is_failed s ≡ false → IsFailed s → ⊥
not_failed Running e f = f
not_failed Ended e f = f
not_failed Broken e f = f
not_failed (Failed fault) e f = false≢true (sym e)

has_failed : (s : NodeState) → is_failed s ≡ true → IsFailed s
has_failed Running e = false≢true e
has_failed Ended e = false≢true e
has_failed Broken e = false≢true e
has_failed (Failed fault) e = tt

module _ {M : Type 0} where
  -- the state of a node
  in_state : (shows : M → Shown) (files : FilesShown) (a : Actor M)
      → node_state_at a ≡ node_state_of (part_of shows files a)
  in_state shows files (an.Source x) = refl
  in_state shows files (an.Stage t) = refl
  in_state shows files (an.Sink y) = refl
  in_state shows files an.Lent = refl

  -- the node that was read
  here_is : (nodes : List (Actor M)) (k : ℕ) (a : Actor M) → k < length nodes → a ≡ get_or nodes k a
      → a ≡ actor_at nodes k
  here_is nodes k a lt at = at ∙ get_or_default nodes k a an.Lent lt

  -- one node more is counted
  pub done_next : (shows : M → Shown) (files : FilesShown) (nodes : List (Actor M))
      (pipes : List Link) (k : ℕ) (a : Actor M) (done bit : ℕ) → k < length nodes
      → a ≡ get_or nodes k a → done ≡ done_below k (state_by shows nodes pipes files)
      → bit ≡ bit_of (is_done (node_state_at a))
      → done + bit ≡ done_below (k + 1) (state_by shows nodes pipes files)
  done_next shows files nodes pipes k a done bit lt at below here =
      let same : bit ≡ bit_of (is_done (node_state_of (part_of shows files (actor_at nodes k)))) =
      here ∙ (ap (λ (b : Actor M). bit_of (is_done (node_state_at b))) (here_is nodes k a lt at)
      ∙ ap (λ (s : NodeState). bit_of (is_done s)) (in_state shows files (actor_at nodes k))) in
      rw add-one (ap₂ (λ (x y : ℕ). x + y) below same)

  -- one node more has not failed
  pub sound_next : (nodes : List (Actor M)) (k : ℕ) (a : Actor M) → k < length nodes
      → a ≡ get_or nodes k a → is_failed (node_state_at a) ≡ false
      → ((j : ℕ) → j < k → IsFailed (node_state_at (actor_at nodes j)) → ⊥) → (j : ℕ) → j < k + 1
      → IsFailed (node_state_at (actor_at nodes j)) → ⊥
  sound_next nodes k a lt at sound below =
      below_more (λ (j : ℕ). IsFailed (node_state_at (actor_at nodes j)) → ⊥) k below
      (not_failed (node_state_at (actor_at nodes k))
      (ap (λ (b : Actor M). is_failed (node_state_at b)) (sym (here_is nodes k a lt at))
      ∙ sound))

  -- why a node has failed that was read
  pub fault_here : (nodes : List (Actor M)) (k : ℕ) (a : Actor M) (fault : RunFault)
      → k < length nodes → a ≡ get_or nodes k a → is_failed (node_state_at a) ≡ true
      → IsFaultAt k a fault → IsFaultOf nodes fault
  fault_here nodes k a fault lt at bad why = record {
    number = k;
    within = lt;
    failed = subst (λ (b : Actor M). IsFailed (node_state_at b)) (here_is nodes k a lt at)
        (has_failed (node_state_at a) bad);
    fault_is = subst (λ (b : Actor M). IsFaultAt k b fault) (here_is nodes k a lt at) why;
  }
