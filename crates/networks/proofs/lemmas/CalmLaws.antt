-- Steps in any order: what they leave; and what is so after a part of them that has every node in
-- it, and by which the network came no further.
use Rattle.std.proofs.Common.{◌≡◌, ◌≢◌, ℕ, zero, suc, ◌<◌, ◌≤◌, ◌⊎◌, inl, inr, List, [], ◌∷◌}
use Rattle.std.proofs.Common.{false, length, refl, sym, ap, ◌∙◌, subst, arith, ⊎_elim}
use Rattle.std.specs.List.{AllByRecursion}
use Rattle.std.specs.Prelude.{Contains, slice_index_or}
use Rattle.std.proofs.lemmas.Bool.{cases_eq}
use Rattle.run_types.specs.declared.node_state.NodeState.{NodeState}
use Rattle.run_types.specs.declared.node_state.NodeState.TheVariants.{Running, Ended, Broken}
use Rattle.run_types.specs.declared.node_state.NodeState.TheVariants.{Failed}
use Rattle.run_types.specs.declared.step.Step.{Step}
use Rattle.run_types.specs.declared.step.Step.TheVariants as step
use Rattle.run_types.specs.Steps.{is_moved}
use Rattle.graphs.specs.Graph.{IsNode, IsPipe}
use Rattle.network_laws.specs.State.{Part, Setup, State, IsLawful, node_state_of, events, IsDone}
use Rattle.network_laws.specs.State.{IsFailed}
use Rattle.network_laws.specs.Steps.{SameEnds, SameState, IsStep, StepIs, progress}
use Rattle.network_laws.specs.Waits.{IsRunning, IsStuck}
use Rattle.networks.specs.Bounds.{HasEach}
use Rattle.networks.specs.Turns.{AreScheduled}
use Rattle.networks.proofs.Progress.{events_grow, done_grows, progress_grows, quiet_ends}
use Rattle.networks.proofs.Progress.{quiet_stays}
use Rattle.networks.proofs.lemmas.Waits.{IsQuiet, each_stuck}

-- the first of a list, or a later one
first_or_later : (x : ℕ) (xs : List ℕ) (k : ℕ) → Contains (x ∷ xs) k → (x ≡ k) ⊎ Contains xs k
first_or_later x xs k c = by_place c.0 c.1 c.2
  where
    by_place : (i : ℕ) → i < length (x ∷ xs) → slice_index_or (x ∷ xs) i k ≡ k
        → (x ≡ k) ⊎ Contains xs k
    by_place zero lt e = inl e
    by_place (suc i) lt e = inr (i, omega (arith, lt), e)

done_halts : (state : NodeState) → IsDone state → state ≢ Running
done_halts Running d e = d
done_halts Ended d e = subst IsDone e d
done_halts Broken d e = subst IsDone e d
done_halts (Failed fault) d e = d

failed_halts : (state : NodeState) → IsFailed state → state ≢ Running
failed_halts state d e = subst IsFailed e d

-- a node that has ended or broken, or waits for a pipe
abbrev IsCalm : Setup → State → ℕ → Type 0
IsCalm s st k = (x : Step) × IsQuiet s st k x

module _ (s : Setup) (k : ℕ) (a b : State) (failed more : ℕ)
    (t : IsStep s.graph k a b failed more) where
  -- a node that does not run stays as it is
  step_keeps : (j : ℕ) → IsNode s.graph j → node_state_of (a.part j) ≢ Running
      → b.part j ≡ a.part j
  step_keeps j within halted =
      ⊎_elim (λ (e : j ≡ k). let same : SameState a b =
      t.halted (λ r. halted (ap (λ (i : ℕ). node_state_of (a.part i)) e ∙ r)) in same.parts j)
      (λ (ne : j ≡ k → ⊥). t.others j within ne)
      (cases_eq j k)

  module _ (few : progress s.graph b ≤ progress s.graph a) where
    -- a step by which the network came no further moved nothing
    unmoved : (st : Step) → StepIs s a b k st → is_moved st ≡ false
    unmoved step.Moved h =
        let less : events s.graph a < events s.graph b = h.1 in
        let done = done_grows s.graph k a b failed more t in
        absurd (omega (arith, less, done, few))
    unmoved (step.Waits p) h = refl
    unmoved step.Ended h = refl
    unmoved step.Broken h = refl
    unmoved step.Failed h = refl

    -- after it its node is calm, and each other that was
    calm_step : IsNode s.graph k → (st : Step) → StepIs s a b k st
        → (IsFailed (node_state_of (b.part k)) → ⊥) → (j : ℕ) → IsNode s.graph j
        → (k ≡ j) ⊎ IsCalm s a j → IsCalm s b j
    calm_step node st is sound j within was =
        let on = events_grow s.graph k a b failed more t in
        let q : SameEnds a b × IsQuiet s b k st =
        quiet_ends s.graph k a b failed more t s refl node st is (unmoved st is)
        (omega (arith, on, few)) sound in
        ⊎_elim
        (λ (e : j ≡ k). (st, subst (λ (i : ℕ). IsQuiet s b i st) (sym e) q.1))
        (λ (ne : j ≡ k → ⊥). ⊎_elim
        (λ (e : k ≡ j). absurd (ne (sym e)))
        (λ (c : IsCalm s a j). (c.0, quiet_stays s a b j c.0 q.0 (t.others j within ne) c.1))
        was)
        (cases_eq j k)

module _ (s : Setup) where
  -- no step takes progress back
  pub progress_on : (nodes : List ℕ) (a b : State) (f m : ℕ) (xs : List Step)
      → AreScheduled s nodes a b f m xs → progress s.graph a ≤ progress s.graph b
  progress_on [] a b f m [] h =
      let e : progress s.graph b ≡ progress s.graph a =
      ap (λ (x : State). progress s.graph x) h.0 in
      omega (arith, e)
  progress_on [] a b f m (x ∷ xs) h = absurd h
  progress_on (k ∷ nodes) a b f m [] h = absurd h
  progress_on (k ∷ nodes) a b f m (x ∷ xs) h =
      let first = progress_grows s.graph k a h.0 f h.1 h.2 in
      let rest = progress_on nodes h.0 b h.1 m xs h.4 in
      omega (arith, first, rest)

  parts_stay : (nodes : List ℕ) (a b : State) (f m : ℕ) (xs : List Step)
      → AreScheduled s nodes a b f m xs → (j : ℕ) → IsNode s.graph j
      → node_state_of (a.part j) ≢ Running → b.part j ≡ a.part j
  parts_stay [] a b f m [] h j within halted = ap (λ (x : State). x.part j) h.0
  parts_stay [] a b f m (x ∷ xs) h j within halted = absurd h
  parts_stay (k ∷ nodes) a b f m [] h j within halted = absurd h
  parts_stay (k ∷ nodes) a b f m (x ∷ xs) h j within halted =
      let first : h.0.part j ≡ a.part j = step_keeps s k a h.0 f h.1 h.2 j within halted in
      parts_stay nodes h.0 b h.1 m xs h.4 j within
      (λ r. halted (ap node_state_of (sym first) ∙ r)) ∙ first

  -- a node at its end stays there
  pub done_stays : (nodes : List ℕ) (a b : State) (f m : ℕ) (xs : List Step)
      → AreScheduled s nodes a b f m xs → (j : ℕ) → IsNode s.graph j
      → IsDone (node_state_of (a.part j)) → IsDone (node_state_of (b.part j))
  done_stays nodes a b f m xs h j within done =
      subst (λ (x : Part). IsDone (node_state_of x))
      (sym (parts_stay nodes a b f m xs h j within
      (done_halts (node_state_of (a.part j)) done))) done

  -- and so does one that has failed
  pub failed_stays : (nodes : List ℕ) (a b : State) (f m : ℕ) (xs : List Step)
      → AreScheduled s nodes a b f m xs → (j : ℕ) → IsNode s.graph j
      → IsFailed (node_state_of (a.part j)) → IsFailed (node_state_of (b.part j))
  failed_stays nodes a b f m xs h j within bad =
      subst (λ (x : Part). IsFailed (node_state_of x))
      (sym (parts_stay nodes a b f m xs h j within
      (failed_halts (node_state_of (a.part j)) bad))) bad

  -- if the network came no further, each node that stepped is calm, and each that was
  calm_all : (nodes : List ℕ) (a b : State) (f m : ℕ) (xs : List Step)
      → AreScheduled s nodes a b f m xs → AllByRecursion (λ k. IsNode s.graph k) nodes
      → progress s.graph b ≤ progress s.graph a
      → ((j : ℕ) → IsNode s.graph j → IsFailed (node_state_of (b.part j)) → ⊥)
      → (j : ℕ) → IsNode s.graph j → Contains nodes j ⊎ IsCalm s a j → IsCalm s b j
  calm_all [] a b f m [] h all few sound j within was =
      ⊎_elim
      (λ (c : Contains [] j). let lt : c.0 < 0 = c.1 in absurd (omega (arith, lt)))
      (λ (c : IsCalm s a j). subst (λ (x : State). IsCalm s x j) (sym h.0) c)
      was
  calm_all [] a b f m (x ∷ xs) h all few sound j within was = absurd h
  calm_all (k ∷ nodes) a b f m [] h all few sound j within was = absurd h
  calm_all (k ∷ nodes) a b f m (x ∷ xs) h all few sound j within was =
      let first = progress_grows s.graph k a h.0 f h.1 h.2 in
      let rest = progress_on nodes h.0 b h.1 m xs h.4 in
      let here : (k ≡ j) ⊎ IsCalm s a j → IsCalm s h.0 j =
      calm_step s k a h.0 f h.1 h.2 (omega (arith, rest, few)) all.0 x h.3
      (λ bad. sound k all.0 (failed_stays nodes h.0 b h.1 m xs h.4 k all.0 bad)) j within in
      calm_all nodes h.0 b h.1 m xs h.4 all.1 (omega (arith, first, few)) sound j within
      (⊎_elim
      (λ (c : Contains (k ∷ nodes) j). ⊎_elim (λ (e : k ≡ j). inr (here (inl e)))
      (λ (d : Contains nodes j). inl d) (first_or_later k nodes j c))
      (λ (c : IsCalm s a j). inr (here (inr c)))
      was)

  -- After steps of every node by which the network came no further nothing can step.
  pub schedule_stuck : (nodes : List ℕ) (old new : State) (f m : ℕ) (results : List Step)
      → AreScheduled s nodes old new f m results → AllByRecursion (λ k. IsNode s.graph k) nodes
      → HasEach (let g = s.graph in length g.nodes) nodes
      → progress s.graph new ≤ progress s.graph old
      → ((j : ℕ) → IsNode s.graph j → IsFailed (node_state_of (new.part j)) → ⊥) → IsLawful s new
      → ((p : ℕ) → IsPipe s.graph p → (let w = new.writing p in 0 < w.capacity))
      → ((p : ℕ) → IsPipe s.graph p → (let w = new.writing p in s.block ≤ w.limit))
      → (k : ℕ) × IsRunning s new k → IsStuck s new
  schedule_stuck nodes old new f m results h all each few sound lawful room bytes some =
      record {
        lawful = lawful;
        room = room;
        bytes = bytes;
        no_fault = sound;
        some = some;
        each = λ k running.
            let c = calm_all nodes old new f m results h all few sound k running.0
            (inl (each k running.0)) in
            each_stuck s new k (c.0 ∷ []) (c.1, tt) k running.1 (omega arith) (omega arith);
      }
