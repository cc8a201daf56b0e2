-- How many nodes are at their end, and the counter of failures over a round.
use Rattle.std.proofs.Common.{◌≡◌, ◌≢◌, ℕ, zero, suc, ◌+◌, ◌<◌, ◌≤◌, Bool, true, false, List, []}
use Rattle.std.proofs.Common.{◌∷◌, ◌++◌, length, get_or, length-append, refl, sym, ap, ◌∙◌, subst}
use Rattle.std.proofs.Common.{⊎_elim, arith}
use Rattle.std.proofs.lemmas.Bool.{cases_Bool, cases_eq, cases_lt, false≢true}
use Rattle.std.proofs.lemmas.List.{get_or_append_left}
use Rattle.std.specs.Prelude.{Contains}
use mir.Val.{bool_byte}
use Rattle.run_types.specs.declared.node_state.NodeFault.{NodeFault}
use Rattle.run_types.specs.declared.node_state.NodeState.{NodeState}
use Rattle.run_types.specs.declared.node_state.NodeState.TheVariants.{Running, Ended, Broken}
use Rattle.run_types.specs.declared.node_state.NodeState.TheVariants.{Failed}
use Rattle.run_types.specs.declared.step.Step.{Step}
use Rattle.run_types.specs.declared.step.Step.TheVariants as step
use Rattle.graphs.specs.Graph.{IsNode}
use Rattle.network_laws.specs.State.{Part, Setup, State, node_state_of, events, IsDone, IsFailed}
use Rattle.run_types.specs.Steps.{is_moved}
use Rattle.network_laws.specs.Steps.{IsStep, StepIs, is_done, done_below, progress}
use Rattle.network_laws.specs.Outcome.{fault_of}
use Rattle.networks.specs.Turns.{Reaches, AreSteps, fault_at, faults_below}
use Rattle.networks.proofs.FailureLaws.{Rises, IsByFile, rises_after, reaches_after, fails_by_file}
use Rattle.networks.proofs.Progress.{bit_of, bit_is, events_grow, done_grows}
use Rattle.networks.proofs.lemmas.RoundLaws.{parts_below, progress_all}

-- a step that moved something made an event
moved_grows : (s : Setup) (a b : State) (k : ℕ) (st : Step) → StepIs s a b k st → is_moved st ≡ true
    → events s.graph a < events s.graph b
moved_grows s a b k step.Moved h m = h.1
moved_grows s a b k _ h m = absurd (false≢true m)

-- a node that has not failed, and is not at its end, runs
runs : (state : NodeState) → is_done state ≡ false → (IsFailed state → ⊥) → state ≡ Running
runs Running d f = refl
runs (Failed fault) d f = absurd (f tt)
runs _ d f = absurd (false≢true (sym d))

pub is_at_end : (state : NodeState) → is_done state ≡ true → IsDone state
is_at_end Ended d = tt
is_at_end Broken d = tt
is_at_end _ d = absurd (false≢true d)

pub byte_bit : (b : Bool) → bool_byte b ≡ bit_of b
byte_bit true = refl
byte_bit false = refl

pub bit_most : (b : Bool) → bit_of b ≤ 1
bit_most true = omega arith
bit_most false = omega arith

-- whether the node k is at its end
abbrev ends : State → ℕ → Bool
ends st k = is_done (node_state_of (st.part k))

done_most : (n : ℕ) (st : State) → done_below n st ≤ n
done_most zero st = omega arith
done_most (suc n) st =
    let h = done_most n st in
    let b = bit_most (ends st n) in
    omega (arith, h, b)

-- if all nodes below a number are at their end
pub all_done : (n : ℕ) (st : State) → done_below n st ≡ n → (k : ℕ) → k < n → ends st k ≡ true
all_done zero st all k within = absurd (omega (arith, within))
all_done (suc n) st all k within =
    ⊎_elim
    (λ (e : ends st n ≡ true).
    let b : bit_of (ends st n) ≡ 1 = bit_is (ends st n) true e in
    let rest : done_below n st ≡ n = omega (arith, all, b) in
    ⊎_elim (λ (lt : k < n). all_done n st rest k lt) (λ (ge : n ≤ k). let same : n ≡ k =
    omega (arith, ge, within) in subst (λ (j : ℕ). ends st j ≡ true) same e) (cases_lt k n))
    (λ (e : ends st n ≡ false).
    let b : bit_of (ends st n) ≡ 0 = bit_is (ends st n) false e in
    let most = done_most n st in
    absurd (omega (arith, all, b, most)))
    (cases_Bool (ends st n))

is_ended : (state : NodeState) → IsDone state → is_done state ≡ true
is_ended Ended d = refl
is_ended Broken d = refl
is_ended _ d = absurd d

-- if each is at its end, all are counted
pub done_all_below : (n : ℕ) (st : State) → ((k : ℕ) → k < n → IsDone (node_state_of (st.part k)))
    → done_below n st ≡ n
done_all_below zero st each = refl
done_all_below (suc n) st each =
    let h = done_all_below n st (λ k lt. each k (omega (arith, lt))) in
    let b : bit_of (ends st n) ≡ 1 = bit_is (ends st n) true
    (is_ended (node_state_of (st.part n)) (each n (omega arith))) in
    omega (arith, h, b)

-- if they are not, and none has failed, one runs
pub some_runs : (n : ℕ) (st : State) → done_below n st ≢ n
    → ((k : ℕ) → k < n → IsFailed (node_state_of (st.part k)) → ⊥)
    → (k : ℕ) × (k < n) × (node_state_of (st.part k) ≡ Running)
some_runs zero st some sound = absurd (some refl)
some_runs (suc n) st some sound =
    ⊎_elim
    (λ (e : ends st n ≡ true).
    let b : bit_of (ends st n) ≡ 1 = bit_is (ends st n) true e in
    let r = some_runs n st (λ (same : done_below n st ≡ n). some
    (let w : done_below n st + bit_of (ends st n) ≡ suc n = omega (arith, same, b) in w))
    (λ k lt. sound k (omega (arith, lt))) in
    (r.0, (let lt : r.0 < n = r.1 in omega (arith, lt)), r.2))
    (λ (e : ends st n ≡ false). (
      n,
      omega arith,
      runs (node_state_of (st.part n)) e
          (sound n (omega arith)),
    ))
    (cases_Bool (ends st n))

-- ---- the faults of a state

first_of_two : {A : Type 0} (xs ys : List A) (x : A) → Contains xs x → Contains (xs ++ ys) x
first_of_two xs ys x h =
    let l : h.0 < length xs = h.1 in
    let e : length (xs ++ ys) ≡ length xs + length ys = length-append xs ys in
    (h.0, omega (arith, l, e), get_or_append_left xs ys x h.0 l ∙ h.2)

last_contained : {A : Type 0} (xs : List A) (x : A) → Contains (xs ++ x ∷ []) x
last_contained [] x = (0, omega arith, refl)
last_contained (y ∷ xs) x =
    let r = last_contained xs x in
    (suc r.0, (let l : r.0 < length (xs ++ x ∷ []) = r.1 in omega (arith, l)), r.2)

-- a failed node's fault is among them
pub fault_named : (n : ℕ) (st : State) (k : ℕ) (fault : NodeFault) → k < n
    → node_state_of (st.part k) ≡ Failed fault → Contains (faults_below n st) (fault_of k fault)
fault_named zero st k fault within e = absurd (omega (arith, within))
fault_named (suc n) st k fault within e =
    ⊎_elim
    (λ (lt : k < n). first_of_two (faults_below n st) (fault_at n (node_state_of (st.part n)))
    (fault_of k fault) (fault_named n st k fault lt e))
    (λ (ge : n ≤ k).
    let same : k ≡ n = omega (arith, ge, within) in
    subst (λ (d : NodeState). Contains (faults_below n st ++ fault_at n d) (fault_of k fault))
    (sym e ∙ ap (λ (j : ℕ). node_state_of (st.part j)) same)
    (subst (λ (j : ℕ). Contains (faults_below n st ++ fault_of j fault ∷ []) (fault_of k fault))
    same (last_contained (faults_below n st) (fault_of k fault))))
    (cases_lt k n)

-- ---- the counter of failures

module _ (s : Setup) (before : ℕ) where
  rises_all : (k : ℕ) (a b : State) (f m : ℕ) (xs : List Step) → AreSteps s k a b f m xs
      → Rises before f → Rises before m
  rises_all k a b f m [] h r = subst (Rises before) (sym h.1) r
  rises_all k a b f m (x ∷ xs) h r =
      let t = h.2 in
      rises_all (suc k) h.0 b h.1 m xs h.4
      (subst (Rises before) (sym t.failures)
      (rises_after before (node_state_of (a.part k)) (node_state_of (h.0.part k)) f r))

  -- if a node failed by its file, the counter has risen
  pub round_rises : (k : ℕ) (a b : State) (f m : ℕ) (xs : List Step) → AreSteps s k a b f m xs
      → (j : ℕ) → IsNode s.graph j → k ≤ j → j < k + length xs
      → (IsFailed (node_state_of (a.part j)) → ⊥) → (fault : NodeFault) → IsByFile fault
      → node_state_of (b.part j) ≡ Failed fault → Reaches before f → Rises before m
  round_rises k a b f m [] h j node le lt sound fault file in_state reach =
      absurd (omega (arith, le, lt))
  round_rises k a b f m (x ∷ xs) h j node le lt sound fault file in_state reach =
      ⊎_elim
      (λ (e : j ≡ k).
      let part : b.part j ≡ h.0.part j = parts_below s (suc k) h.0 b h.1 m xs h.4 j node
      (omega (arith, e)) in
      rises_all (suc k) h.0 b h.1 m xs h.4
      (fails_by_file s.graph k a h.0 f h.1 before fault h.2
      (λ bad. sound (subst (λ (i : ℕ). IsFailed (node_state_of (a.part i))) (sym e) bad)) file
      (subst (λ (i : ℕ). node_state_of (h.0.part i) ≡ Failed fault) e (sym (ap node_state_of part)
      ∙ in_state)) reach))
      (λ (ne : j ≢ k).
      let t = h.2 in
      let later : suc k ≤ j = ⊎_elim (λ (l : k < j). omega (arith, l))
      (λ (g : j ≤ k). absurd (ne (omega (arith, g, le)))) (cases_lt k j) in
      round_rises (suc k) h.0 b h.1 m xs h.4 j node later (omega (arith, lt))
      (λ bad. sound (subst (λ (y : Part). IsFailed (node_state_of y)) (t.others j node ne) bad))
      fault file in_state
      (subst (Reaches before) (sym t.failures)
      (reaches_after before (node_state_of (a.part k)) (node_state_of (h.0.part k)) f reach)))
      (cases_eq j k)

-- ---- how far a round comes

module _ (s : Setup) where
  -- events never grow fewer
  pub events_all : (k : ℕ) (a b : State) (f m : ℕ) (xs : List Step) → AreSteps s k a b f m xs
      → events s.graph a ≤ events s.graph b
  events_all k a b f m [] h =
      let e : events s.graph b ≡ events s.graph a = ap (λ (x : State). events s.graph x) h.0 in
      omega (arith, e)
  events_all k a b f m (x ∷ xs) h =
      let d = events_grow s.graph k a h.0 f h.1 h.2 in
      let r = events_all (suc k) h.0 b h.1 m xs h.4 in
      omega (arith, d, r)

  -- a round in which a step moved something came further
  pub moved_further : (k : ℕ) (a b : State) (f m : ℕ) (xs : List Step) → AreSteps s k a b f m xs
      → (i : ℕ) → i < length xs → is_moved (get_or xs i step.Ended) ≡ true
      → progress s.graph a < progress s.graph b
  moved_further k a b f m [] h i l e = absurd (omega (arith, l))
  moved_further k a b f m (x ∷ xs) h zero l e =
      let first = moved_grows s a h.0 k x h.3 e in
      let done = done_grows s.graph k a h.0 f h.1 h.2 in
      let rest = progress_all s (suc k) h.0 b h.1 m xs h.4 in
      omega (arith, first, done, rest)
  moved_further k a b f m (x ∷ xs) h (suc i) l e =
      let events = events_grow s.graph k a h.0 f h.1 h.2 in
      let done = done_grows s.graph k a h.0 f h.1 h.2 in
      let rest = moved_further (suc k) h.0 b h.1 m xs h.4 i (omega (arith, l)) e in
      omega (arith, events, done, rest)

  -- a step that moved something made an event, and none takes one back
  pub step_events : (k : ℕ) (a b : State) (f m : ℕ) (st : Step) → IsStep s.graph k a b f m
      → StepIs s a b k st → bit_of (is_moved st) + events s.graph a ≤ events s.graph b
  step_events k a b f m st t is = ⊎_elim
      (λ (e : is_moved st ≡ true).
      let g = moved_grows s a b k st is e in
      let one : bit_of (is_moved st) ≡ 1 = bit_is (is_moved st) true e in
      omega (arith, g, one))
      (λ (e : is_moved st ≡ false).
      let g = events_grow s.graph k a b f m t in
      let none : bit_of (is_moved st) ≡ 0 = bit_is (is_moved st) false e in
      omega (arith, g, none))
      (cases_Bool (is_moved st))
