-- The waits that the steps of a round answered.
use Rattle.std.proofs.Common.{◌≡◌, ℕ, zero, suc, ◌+◌, ◌<◌, ◌≤◌, Bool, List, [], ◌∷◌, ◌++◌, length}
use Rattle.std.proofs.Common.{take, get_or, refl, sym, ap, ap₂, ◌∙◌, subst, inl, inr, ⊎_elim}
use Rattle.std.proofs.Common.{append_assoc, arith}
use Rattle.std.proofs.lemmas.Bool.{cases_eq}
use Rattle.std.proofs.lemmas.List.{take_more}
use Rattle.std.specs.List.{AllByRecursion}
use Rattle.std.specs.Prelude.{◌==◌}
use Rattle.run_types.specs.declared.node_state.NodeState.{NodeState}
use Rattle.run_types.specs.declared.node_state.NodeState.TheVariants.{Running}
use Rattle.run_types.specs.declared.step.Step.{Step}
use Rattle.run_types.specs.declared.step.Step.TheVariants as step
use Rattle.graphs.specs.Graph.{Graph, writer}
use Rattle.network_laws.specs.State.{Setup, State, node_state_of, IsDone}
use Rattle.network_laws.specs.Waits.{WaitsFor, IsRunning}
use Rattle.network_laws.specs.Outcome.{AreRising, IsNamed, AreWaits}
use Rattle.networks.specs.Turns.{waits_from}
use Rattle.network_laws.specs.declared.outcome.Waiting.{Waiting}

-- the first wait, and those of the steps after it
waits_front : (g : Graph) (k : ℕ) (x : Step) (xs : List Step)
    → waits_from g k (x ∷ xs) ≡ waits_from g k (x ∷ []) ++ waits_from g (suc k) xs
waits_front g k step.Moved xs = refl
waits_front g k (step.Waits p) xs = refl
waits_front g k step.Ended xs = refl
waits_front g k step.Broken xs = refl
waits_front g k step.Failed xs = refl

-- one step more
waits_more : (g : Graph) (k : ℕ) (xs : List Step) (x : Step)
    → waits_from g k (xs ++ x ∷ []) ≡ waits_from g k xs ++ waits_from g (k + length xs) (x ∷ [])
waits_more g k [] x = ap (λ (n : ℕ). waits_from g n (x ∷ [])) (let e : k ≡ k + 0 = omega arith in e)
waits_more g k (y ∷ xs) x =
    waits_front g k y (xs ++ x ∷ [])
    ∙ (ap (λ (l : List Waiting). waits_from g k (y ∷ []) ++ l) (waits_more g (suc k) xs x)
    ∙ (sym (append_assoc (waits_from g k (y ∷ [])) (waits_from g (suc k) xs)
    (waits_from g (suc k + length xs) (x ∷ [])))
    ∙ ap₂ (λ (a b : List Waiting). a ++ b) (sym (waits_front g k y xs))
    (ap (λ (n : ℕ). waits_from g n (x ∷ [])) (let e : suc k + length xs ≡ k + length (y ∷ xs) =
    omega arith in e))))

length_take : {A : Type 0} (xs : List A) (n : ℕ) → n ≤ length xs → length (take n xs) ≡ n
length_take [] zero h = refl
length_take [] (suc n) h = absurd (omega (arith, h))
length_take (x ∷ xs) zero h = refl
length_take (x ∷ xs) (suc n) h =
    let r : length (take n xs) ≡ n = length_take xs n (omega (arith, h)) in
    omega arith

pub waits_taken : (g : Graph) (xs : List Step) (n : ℕ) (d : Step) → n < length xs
    → waits_from g 0 (take (n + 1) xs) ≡ waits_from g 0 (take n xs) ++ waits_from g n
    (get_or xs n d ∷ [])
waits_taken g xs n d h =
    let l : length (take n xs) ≡ n = length_take xs n (omega (arith, h)) in
    ap (λ (ys : List Step). waits_from g 0 ys) (take_more xs n d h)
    ∙ (waits_more g 0 (take n xs) (get_or xs n d)
    ∙ ap (λ (j : ℕ). waits_from g 0 (take n xs) ++ waits_from g j (get_or xs n d ∷ []))
    (let e : 0 + length (take n xs) ≡ n = omega arith in e))

-- ---- a round in which nothing moved

-- the node k has ended or broken, or waits as its step says
abbrev pub IsQuiet : Setup → State → ℕ → Step → Type 0
IsQuiet s st k step.Moved = ⊥
IsQuiet s st k (step.Waits p) = (node_state_of (st.part k) ≡ Running)
    × WaitsFor s st k (writer s.graph p == k) p
IsQuiet s st k step.Ended = IsDone (node_state_of (st.part k))
IsQuiet s st k step.Broken = IsDone (node_state_of (st.part k))
IsQuiet s st k step.Failed = ⊥

-- and so have the nodes from the number k on
abbrev pub AreQuiet : Setup → State → ℕ → List Step → Type 0
AreQuiet s st k [] = Unit {0}
AreQuiet s st k (x ∷ xs) = IsQuiet s st k x × AreQuiet s st (suc k) xs

done_runs : (state : NodeState) → IsDone state → state ≡ Running → ⊥
done_runs state d e = subst IsDone e d

each_wait : (s : Setup) (st : State) (k : ℕ) (xs : List Step) → k + length xs ≡ length s.graph.nodes
    → AreQuiet s st k xs → AllByRecursion (λ (w : Waiting). IsRunning s st w.node
    × WaitsFor s st w.node w.full w.pipe) (waits_from s.graph k xs)
each_wait s st k [] n q = tt
each_wait s st k (step.Waits p ∷ xs) n q = (
  ((let within : k < length s.graph.nodes = omega (arith, n) in within, q.0.0), q.0.1),
  each_wait s st (suc k) xs (omega (arith, n)) q.1,
)
each_wait s st k (step.Ended ∷ xs) n q = each_wait s st (suc k) xs (omega (arith, n)) q.1
each_wait s st k (step.Broken ∷ xs) n q = each_wait s st (suc k) xs (omega (arith, n)) q.1
each_wait s st k _ n q = absurd q.0

-- a node that runs is named
all_named : (s : Setup) (st : State) (k : ℕ) (xs : List Step) → AreQuiet s st k xs → (j : ℕ)
    → node_state_of (st.part j) ≡ Running → k ≤ j → j < k + length xs
    → IsNamed j (waits_from s.graph k xs)
all_named s st k [] q j r low high = absurd (omega (arith, low, high))
all_named s st k (step.Waits p ∷ xs) q j r low high =
    ⊎_elim (λ (e : k ≡ j). inl e)
    (λ (ne : k ≡ j → ⊥). inr (all_named s st (suc k) xs q.1 j r (omega (arith, low, ne))
    (omega (arith, high)))) (cases_eq k j)
all_named s st k (step.Ended ∷ xs) q j r low high =
    ⊎_elim
    (λ (e : k ≡ j). absurd (done_runs (node_state_of (st.part k)) q.0
    (ap (λ (i : ℕ). node_state_of (st.part i)) e ∙ r)))
    (λ (ne : k ≡ j → ⊥). all_named s st (suc k) xs q.1 j r (omega (arith, low, ne))
    (omega (arith, high))) (cases_eq k j)
all_named s st k (step.Broken ∷ xs) q j r low high =
    ⊎_elim
    (λ (e : k ≡ j). absurd (done_runs (node_state_of (st.part k)) q.0
    (ap (λ (i : ℕ). node_state_of (st.part i)) e ∙ r)))
    (λ (ne : k ≡ j → ⊥). all_named s st (suc k) xs q.1 j r (omega (arith, low, ne))
    (omega (arith, high))) (cases_eq k j)
all_named s st k _ q j r low high = absurd q.0

-- and waits for a pipe
pub each_stuck : (s : Setup) (st : State) (k : ℕ) (xs : List Step) → AreQuiet s st k xs → (j : ℕ)
    → node_state_of (st.part j) ≡ Running → k ≤ j → j < k + length xs
    → (full : Bool) × (p : ℕ) × WaitsFor s st j full p
each_stuck s st k [] q j r low high = absurd (omega (arith, low, high))
each_stuck s st k (step.Waits p ∷ xs) q j r low high =
    ⊎_elim (λ (e : k ≡ j). subst (λ (i : ℕ). (full : Bool) × (p : ℕ) × WaitsFor s st i full p) e
    (writer s.graph p == k, p, q.0.1))
    (λ (ne : k ≡ j → ⊥). each_stuck s st (suc k) xs q.1 j r (omega (arith, low, ne))
    (omega (arith, high))) (cases_eq k j)
each_stuck s st k (step.Ended ∷ xs) q j r low high =
    ⊎_elim
    (λ (e : k ≡ j). absurd (done_runs (node_state_of (st.part k)) q.0
    (ap (λ (i : ℕ). node_state_of (st.part i)) e ∙ r)))
    (λ (ne : k ≡ j → ⊥). each_stuck s st (suc k) xs q.1 j r (omega (arith, low, ne))
    (omega (arith, high))) (cases_eq k j)
each_stuck s st k (step.Broken ∷ xs) q j r low high =
    ⊎_elim
    (λ (e : k ≡ j). absurd (done_runs (node_state_of (st.part k)) q.0
    (ap (λ (i : ℕ). node_state_of (st.part i)) e ∙ r)))
    (λ (ne : k ≡ j → ⊥). each_stuck s st (suc k) xs q.1 j r (omega (arith, low, ne))
    (omega (arith, high))) (cases_eq k j)
each_stuck s st k _ q j r low high = absurd q.0

-- the waits are named in rising order
abbrev IsAfter : ℕ → List Waiting → Type 0
IsAfter k [] = Unit {0}
IsAfter k (w ∷ waits) = k ≤ w.node

waits_after : (g : Graph) (k j : ℕ) (xs : List Step) → j ≤ k → IsAfter j (waits_from g k xs)
waits_after g k j [] h = tt
waits_after g k j (step.Moved ∷ xs) h = waits_after g (suc k) j xs (omega (arith, h))
waits_after g k j (step.Waits p ∷ xs) h = h
waits_after g k j (step.Ended ∷ xs) h = waits_after g (suc k) j xs (omega (arith, h))
waits_after g k j (step.Broken ∷ xs) h = waits_after g (suc k) j xs (omega (arith, h))
waits_after g k j (step.Failed ∷ xs) h = waits_after g (suc k) j xs (omega (arith, h))

rising_more : (w : Waiting) (waits : List Waiting) → IsAfter (suc w.node) waits → AreRising waits
    → AreRising (w ∷ waits)
rising_more w [] a r = tt
rising_more w (v ∷ waits) a r = (
  let l : suc w.node ≤ v.node = a in
      let m : w.node < v.node = omega (arith, l) in m,
  r,
)

rising : (g : Graph) (k : ℕ) (xs : List Step) → AreRising (waits_from g k xs)
rising g k [] = tt
rising g k (step.Moved ∷ xs) = rising g (suc k) xs
rising g k (step.Waits p ∷ xs) = rising_more (record { node = k; pipe = p; full = writer g p == k })
    (waits_from g (suc k) xs) (waits_after g (suc k) (suc k) xs (omega arith)) (rising g (suc k) xs)
rising g k (step.Ended ∷ xs) = rising g (suc k) xs
rising g k (step.Broken ∷ xs) = rising g (suc k) xs
rising g k (step.Failed ∷ xs) = rising g (suc k) xs

-- the waits of a round of all nodes in which nothing moved
pub quiet_waits : (s : Setup) (st : State) (xs : List Step) → length xs ≡ length s.graph.nodes
    → AreQuiet s st 0 xs → AreWaits s st (waits_from s.graph 0 xs)
quiet_waits s st xs n q =
    record {
      each = each_wait s st 0 xs (omega (arith, n)) q;
      all = λ j running. all_named s st 0 xs q j running.1 (omega arith)
          (let within : j < length s.graph.nodes = running.0 in omega (arith, n, within));
      rising = rising s.graph 0 xs;
    }
