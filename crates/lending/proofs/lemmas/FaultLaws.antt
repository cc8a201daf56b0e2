-- Failures: which steps count one, and that the counter of failures tells the truth of the nodes.
use Rattle.std.proofs.Common.{◌≡◌, ◌≢◌, ℕ, ◌<◌, List, Option, Some, set, length, refl, ap, ◌∙◌, sym}
use Rattle.std.proofs.Common.{subst, length-set}
use Rattle.machine.specs.Law.{Shown}
use Rattle.collector.specs.Files.{FilesShown}
use Rattle.collector.specs.Nodes.{failures_after}
use Rattle.run_types.specs.declared.node_state.NodeFault.{NodeFault}
use Rattle.run_types.specs.declared.node_state.NodeFault.TheVariants.{ReadFault, WriteFault}
use Rattle.run_types.specs.declared.node_state.NodeState.{NodeState}
use Rattle.run_types.specs.declared.node_state.NodeState.TheVariants.{Running, Ended, Broken}
use Rattle.run_types.specs.declared.node_state.NodeState.TheVariants.{Failed}
use Rattle.run_types.specs.declared.step.Step.{Step}
use Rattle.run_types.specs.declared.step.Step.TheVariants as answer
use Rattle.stages.specs.inner.Steps.{HasState}
use Rattle.graphs.specs.Graph.{GraphNode, Source, Sink}
use Rattle.network_laws.specs.State.{Part, node_state_of, IsFailed}
use Rattle.network_nodes.specs.declared.actor.Actor.{Actor}
use Rattle.network_nodes.specs.declared.actor.Actor.TheVariants as an
use Rattle.network_nodes.specs.declared.actor.Link.{Link}
use Rattle.network_nodes.specs.inner.Actors.{actor_at, node_state_at}
use Rattle.networks.specs.Networks.{Networked, Face, IsHere, shape, part_of}
use Rattle.networks.specs.inner.Steps.{Acts, Sees, SeesMore}
use Rattle.networks.specs.Turns.{Reaches, HasRisen, HasFileFault, FaultsAreTrue, HasFailed}
use Rattle.networks.specs.Turns.{AnyFailed}
use Rattle.networks.proofs.Acted.{at_else, at_same, each_node}
use Rattle.networks.proofs.EndLaws.{no_files, state_is}
use Rattle.networks.proofs.FailureLaws.{IsByFile, one_more_rises, reaches_after, rises_after}
use Rattle.networks.proofs.Same.{acts_in_state}
use Rattle.networks.proofs.StateLaws.{acts_failures}
use Rattle.lending.specs.inner.Loans.{Grouped, AreOut, StepsHere, Settles, fill, filled}
use Rattle.lending.proofs.FillLaws.{fill_at, fill_count, fill_each}

-- ---- what an answer says of the counter

-- a node in another state than failed has not just failed by its file
sound_failures : (a b : NodeState) (failures : ℕ) → (IsFailed b → ⊥)
    → failures_after a b failures ≡ failures
sound_failures Running (Failed fault) failures h = absurd (h tt)
sound_failures _ _ failures h = refl

otherwise : (a b : NodeState) → a ≡ b → (IsFailed b → ⊥) → IsFailed a → ⊥
otherwise a b e sound h = sound (subst IsFailed e h)

-- a node whose result is not that it has failed has not
in_state_sound : (a : NodeState) (st : Step) → HasState a st → st ≢ answer.Failed → IsFailed a → ⊥
in_state_sound a answer.Moved s ne = otherwise a Running s (λ h. h)
in_state_sound a (answer.Waits p) s ne = otherwise a Running s (λ h. h)
in_state_sound a answer.Ended s ne = otherwise a Ended s (λ h. h)
in_state_sound a answer.Broken s ne = otherwise a Broken s (λ h. h)
in_state_sound a answer.Failed s ne = absurd (ne refl)

-- ---- a step

-- a node that came to fail by its file, or had failed so before, has made the counter rise
fault_rises : (before : ℕ) (x z : NodeState) (fault : NodeFault) (now : ℕ) → IsByFile fault
    → z ≡ Failed fault → (x ≢ Running → z ≡ x) → Reaches before now
    → (x ≡ Failed fault → HasRisen before now) → HasRisen before (failures_after x z now)
fault_rises before Running z ReadFault now file e stays reach given =
    subst (λ (s : NodeState). HasRisen before (failures_after Running s now)) (sym e)
    (one_more_rises before now reach)
fault_rises before Running z WriteFault now file e stays reach given =
    subst (λ (s : NodeState). HasRisen before (failures_after Running s now)) (sym e)
    (one_more_rises before now reach)
fault_rises before Running z _ now file e stays reach given = absurd file
fault_rises before _ z fault now file e stays reach given =
    given (sym (stays (λ r. absurd (cc))) ∙ e)

module _ {M : Type 0} (shows : M → Shown) (f g : FilesShown) (st : Step) where
  -- the counter stays if the node's result is not that it has failed
  pub acts_sound : (a b : Actor M) → Acts shows a b f g st → st ≢ answer.Failed
      → g.failures ≡ f.failures
  acts_sound a b h ne =
      acts_failures shows f g st a b h
      ∙ sound_failures (node_state_of (part_of shows f a))
      (node_state_of (part_of shows g b)) f.failures
      (in_state_sound (node_state_of (part_of shows g b)) st
      (acts_in_state shows f g st a b h) ne)

  -- and if it is, the node has failed
  pub acts_failed : (a b : Actor M) → Acts shows a b f g st → st ≡ answer.Failed
      → IsFailed (node_state_at b)
  acts_failed a b h e =
      let s : HasState (node_state_of (part_of shows g b)) answer.Failed =
      subst (HasState (node_state_of (part_of shows g b))) e
      (acts_in_state shows f g st a b h) in
      subst IsFailed (sym s.1 ∙ state_is shows g b) tt

  -- one step of a node that is here
  pub step_here : (nodes : List (Actor M)) (k : ℕ) (actor : Actor M) → k < length nodes
      → Acts shows (actor_at nodes k) actor f g st
      → StepsHere shows k nodes (set nodes k actor) f g st
  step_here nodes k actor lt acts = record {
    acts = subst (λ (a : Actor M). Acts shows (actor_at nodes k) a f g st)
        (sym (at_same nodes k actor lt)) acts;
    others = λ j ne. at_else nodes k j actor ne;
  }

  pub step_failed : (nodes : List (Actor M)) (k : ℕ) (actor : Actor M) → k < length nodes
      → Acts shows (actor_at nodes k) actor f g st → st ≡ answer.Failed
      → HasFailed (set nodes k actor)
  step_failed nodes k actor lt acts e = (
    k,
    subst (λ (n : ℕ). k < n) (sym (length-set nodes k actor)) lt,
    subst (λ (a : Actor M). IsFailed (node_state_at a)) (sym (at_same nodes k actor lt))
        (acts_failed (actor_at nodes k) actor acts e),
  )

  module _ (before : ℕ) (reach : Reaches before f.failures) where
    pub acts_reaches : (a b : Actor M) → Acts shows a b f g st → Reaches before g.failures
    acts_reaches a b h = subst (Reaches before) (sym (acts_failures shows f g st a b h))
        (reaches_after before (node_state_of (part_of shows f a))
        (node_state_of (part_of shows g b)) f.failures reach)

    acts_rises : (a b : Actor M) → Acts shows a b f g st → HasRisen before f.failures
        → HasRisen before g.failures
    acts_rises a b h r = subst (HasRisen before) (sym (acts_failures shows f g st a b h))
        (rises_after before (node_state_of (part_of shows f a))
        (node_state_of (part_of shows g b)) f.failures r)

    own_fault : (a b : Actor M) → Acts shows a b f g st
        → (HasFileFault a → HasRisen before f.failures) → HasFileFault b
        → HasRisen before g.failures
    own_fault (an.Source x) (an.Source z) h true_ e =
        subst (HasRisen before) (sym h.failures)
        (fault_rises before x.state z.state ReadFault f.failures tt e
        (λ ne. ap (λ y. y.state) (h.stays ne).0) reach true_)
    own_fault (an.Stage t) (an.Stage u) h true_ e = absurd e
    own_fault (an.Sink y) (an.Sink z) h true_ e =
        subst (HasRisen before) (sym h.failures)
        (fault_rises before y.state z.state WriteFault f.failures tt e
        (λ ne. ap (λ w. w.state) (h.stays ne).0) reach true_)
    own_fault a b h true_ e = absurd h

    -- so each failure of a file since then has been counted after a step as before it
    pub step_faults : (nodes : List (Actor M)) (k : ℕ) (actor : Actor M) → k < length nodes
        → Acts shows (actor_at nodes k) actor f g st → FaultsAreTrue before f.failures nodes
        → FaultsAreTrue before g.failures (set nodes k actor)
    step_faults nodes k actor lt acts true_ =
        each_node (λ j a. HasFileFault a → HasRisen before g.failures) nodes k actor lt
        (own_fault (actor_at nodes k) actor acts (true_ k))
        (λ j ne e. acts_rises (actor_at nodes k) actor acts (true_ j e))

-- ---- groups put back, and a look

-- a fault of a file, by what the node is and its state
abbrev file_fault : Option GraphNode → NodeState → Type 0
file_fault (Some (Source empty)) state = state ≡ Failed ReadFault
file_fault (Some Sink) state = state ≡ Failed WriteFault
file_fault _ state = ⊥

module _ {M : Type 0} where
  fault_here : (a : Actor M) → HasFileFault a → IsHere a
  fault_here an.Lent h = h
  fault_here _ h = tt

  failed_here : (a : Actor M) → IsFailed (node_state_at a) → IsHere a
  failed_here an.Lent h = h
  failed_here _ h = tt

  -- stages have no fault of a file, so those that are put back change nothing
  pub fill_faults : (before now : ℕ) (groups : List (Grouped M)) (nodes : List (Actor M))
      → FaultsAreTrue before now nodes → FaultsAreTrue before now (fill groups nodes)
  fill_faults before now groups nodes h = fill_each (λ k a. HasFileFault a
      → HasRisen before now) (λ k t e. absurd e) groups nodes h

  pub left_faults : (before now : ℕ) (groups : List (Grouped M)) (nodes : List (Actor M))
      → AreOut nodes groups → FaultsAreTrue before now (fill groups nodes)
      → FaultsAreTrue before now nodes
  left_faults before now groups nodes out h k e =
      h k (subst HasFileFault (sym (fill_at nodes k (fault_here (actor_at nodes k) e) groups out))
      e)

  -- a network in which a node has failed is such a one with the groups put back
  pub fill_failed : (n : Networked M) (groups : List (Grouped M)) → AreOut n.nodes groups
      → AnyFailed n → AnyFailed (filled n groups)
  fill_failed n groups out h = (
    h.0,
    subst (λ (c : ℕ). h.0 < c) (sym (fill_count groups n.nodes)) h.1,
    subst (λ (a : Actor M). IsFailed (node_state_at a))
        (sym (fill_at n.nodes h.0 (failed_here (actor_at n.nodes h.0) h.2) groups out)) h.2,
  )

  -- ---- a look

  fault_is : (a : Actor M) → HasFileFault a ≡ file_fault (shape a) (node_state_at a)
  fault_is (an.Source x) = refl
  fault_is (an.Stage t) = refl
  fault_is (an.Sink y) = refl
  fault_is an.Lent = refl

  module _ (shows : M → Shown) where
    -- a node is in the same state after a look as before it
    seen_state : (a b : Actor M) → SeesMore a b → node_state_at b ≡ node_state_at a
    seen_state a b s = sym (state_is shows no_files b)
        ∙ (ap (λ (p : Part). node_state_of p) (s.part_is shows no_files)
        ∙ state_is shows no_files a)

    seen_fault : (a b : Actor M) → SeesMore a b → HasFileFault b ≡ HasFileFault a
    seen_fault a b s =
        let same = s.same in
        fault_is b
        ∙ (ap (λ (o : Option GraphNode). file_fault o (node_state_at b))
        (ap (λ (f : Face). f.shape) same)
        ∙ (ap (λ (x : NodeState). file_fault (shape a) x) (seen_state a b s)
        ∙ sym (fault_is a)))

    -- so its faults are what they were
    pub sees_faults : (before now : ℕ) (pipes : List Link) (a b : List (Actor M)) → Sees pipes a b
        → FaultsAreTrue before now a → FaultsAreTrue before now b
    sees_faults before now pipes a b s h k e =
        h k (subst (λ (T : Type 0). T) (seen_fault (actor_at a k) (actor_at b k) (s.nodes k)) e)

    -- and a node that has failed has failed
    pub settles_failed : (n m : Networked M) → Settles n m → AnyFailed n → AnyFailed m
    settles_failed n m s h =
        let e = s.sees in (
          h.0,
          subst (λ (c : ℕ). h.0 < c) (sym e.count) h.1,
          subst IsFailed
              (sym (seen_state (actor_at n.nodes h.0) (actor_at m.nodes h.0) (e.nodes h.0))) h.2,
        )
