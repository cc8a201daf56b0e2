-- How far a network comes by a step, and what a step is after which it came no further.
use Rattle.std.proofs.Common.{◌≡◌, ◌≢◌, ℕ, zero, suc, ◌<◌, ◌≤◌, Bool, true, false, length, sym, ap}
use Rattle.std.proofs.Common.{◌∙◌, subst, ⊎_elim, arith}
use Rattle.std.proofs.lemmas.Bool.{cases_eq, cases_Bool, false≢true}
use Rattle.std.specs.Prelude.{if◌then◌else◌, ◌==◌}
use Rattle.run_types.specs.declared.node_state.NodeState.{NodeState}
use Rattle.run_types.specs.declared.node_state.NodeState.TheVariants.{Running, Ended, Broken}
use Rattle.run_types.specs.declared.node_state.NodeState.TheVariants.{Failed}
use Rattle.run_types.specs.declared.step.Step.{Step}
use Rattle.run_types.specs.declared.step.Step.TheVariants as step
use Rattle.graphs.specs.Graph.{Graph, IsNode, writer}
use Rattle.network_laws.specs.State.{Part, Setup, State, node_state_of, events, IsDone, IsFailed}
use Rattle.run_types.specs.Steps.{is_moved}
use Rattle.network_laws.specs.Steps.{SameEnds, SameState, IsStep, StepIs, is_done, done_below}
use Rattle.network_laws.specs.Steps.{progress}
use Rattle.network_laws.proofs.StepLaws.{wait_same}
use Rattle.networks.proofs.lemmas.GrowthLaws.{mark_on, events_on}
use Rattle.networks.proofs.lemmas.Waits.{IsQuiet}

-- one, or none
abbrev pub bit_of : Bool → ℕ
bit_of b = if b then 1 else 0

pub bit_is : (b c : Bool) → b ≡ c → bit_of b ≡ bit_of c
bit_is b c e = ap bit_of e

-- ---- a node that has ended or broken stays so

done_halts : (state : NodeState) → is_done state ≡ true → state ≢ Running
done_halts Running d e = false≢true d
done_halts Ended d e = false≢true (ap is_done (sym e))
done_halts Broken d e = false≢true (ap is_done (sym e))
done_halts (Failed fault) d e = false≢true d

module _ (g : Graph) (k : ℕ) (a b : State) (failed more : ℕ) (t : IsStep g k a b failed more) where
  pub done_stays : (j : ℕ) → IsNode g j → is_done (node_state_of (a.part j)) ≡ true
      → b.part j ≡ a.part j
  done_stays j within d =
      ⊎_elim (λ (e : j ≡ k). let same : SameState a b =
      t.halted (done_halts (node_state_of (a.part k))
      (ap (λ (i : ℕ). is_done (node_state_of (a.part i))) (sym e) ∙ d)) in same.parts j)
      (λ (ne : j ≡ k → ⊥). t.others j within ne)
      (cases_eq j k)

  bit_on : (j : ℕ) → IsNode g j
      → (if is_done (node_state_of (a.part j)) then 1 else 0) ≤ (if is_done
      (node_state_of (b.part j)) then 1 else 0)
  bit_on j within = mark_on (is_done (node_state_of (a.part j)))
      (is_done (node_state_of (b.part j)))
      (λ d. ap (λ (x : Part). is_done (node_state_of x)) (done_stays j within d) ∙ d)

  done_on : (n : ℕ) → n ≤ length g.nodes → done_below n a ≤ done_below n b
  done_on zero h = omega arith
  done_on (suc n) h =
      let r : done_below n a ≤ done_below n b = done_on n (omega (arith, h)) in
      let l : n < length g.nodes = omega (arith, h) in
      let x : (if is_done (node_state_of (a.part n)) then 1 else 0) ≤ (if is_done
      (node_state_of (b.part n)) then 1 else 0) = bit_on n l in
      omega arith

  pub events_grow : events g a ≤ events g b
  events_grow = events_on (length g.pipes) a b t.writes_on t.reads_on

  pub done_grows : done_below (length g.nodes) a ≤ done_below (length g.nodes) b
  done_grows = done_on (length g.nodes) (omega arith)

  pub progress_grows : progress g a ≤ progress g b
  progress_grows =
      let e : events g a ≤ events g b = events_grow in
      let d : done_below (length g.nodes) a ≤ done_below (length g.nodes) b = done_grows in
      omega arith

  -- a node that comes to its end is one more
  ends_one_more : (n : ℕ) → n ≤ length g.nodes → k < n → is_done (node_state_of (a.part k)) ≡ false
      → is_done (node_state_of (b.part k)) ≡ true → done_below n a < done_below n b
  ends_one_more zero h l x y = absurd (omega (arith, l))
  ends_one_more (suc n) h l x y =
      ⊎_elim (λ (e : n ≡ k).
      let r : done_below n a ≤ done_below n b = done_on n (omega (arith, h)) in
      let u : bit_of (is_done (node_state_of (a.part n))) ≡ 0 =
      bit_is (is_done (node_state_of (a.part n))) false
      (ap (λ (i : ℕ). is_done (node_state_of (a.part i))) e ∙ x) in
      let v : bit_of (is_done (node_state_of (b.part n))) ≡ 1 =
      bit_is (is_done (node_state_of (b.part n))) true
      (ap (λ (i : ℕ). is_done (node_state_of (b.part i))) e ∙ y) in
      omega arith)
      (λ (ne : n ≡ k → ⊥).
      let r : done_below n a < done_below n b =
      ends_one_more n (omega (arith, h)) (omega (arith, l, ne)) x y in
      let w : n < length g.nodes = omega (arith, h) in
      let z : (if is_done (node_state_of (a.part n)) then 1 else 0) ≤ (if is_done
      (node_state_of (b.part n)) then 1 else 0) = bit_on n w in
      omega arith)
      (cases_eq n k)

  -- if no node more ended, one that is at its end was there before, and its step did nothing
  pub ended_before : IsNode g k → done_below (length g.nodes) b ≤ done_below (length g.nodes) a
      → is_done (node_state_of (b.part k)) ≡ true → SameState a b
  ended_before within same d =
      ⊎_elim (λ (e : is_done (node_state_of (a.part k)) ≡ true). t.halted
      (done_halts (node_state_of (a.part k)) e))
      (λ (e : is_done (node_state_of (a.part k)) ≡ false). let l : done_below
      (length g.nodes) a < done_below (length g.nodes) b =
      ends_one_more (length g.nodes) (omega arith) within e d in
      absurd (omega (arith, l, same)))
      (cases_Bool (is_done (node_state_of (a.part k))))

  -- a step with no event after which no node more is at its end, and its node has not failed
  pub quiet_ends : (s : Setup) → s.graph ≡ g → IsNode g k → (st : Step) → StepIs s a b k st
      → is_moved st ≡ false → done_below (length g.nodes) b ≤ done_below (length g.nodes) a
      → (IsFailed (node_state_of (b.part k)) → ⊥) → SameEnds a b × IsQuiet s b k st
  quiet_ends s e within step.Moved h m d f = absurd (false≢true (sym m))
  quiet_ends s e within (step.Waits p) h m d f = (h.1, (h.0, h.2))
  quiet_ends s e within step.Ended h m d f =
      let same : SameState a b = ended_before within d (ap is_done h) in
      (same.ends, subst IsDone (sym h) tt)
  quiet_ends s e within step.Broken h m d f =
      let same : SameState a b = ended_before within d (ap is_done h) in
      (same.ends, subst IsDone (sym h) tt)
  quiet_ends s e within step.Failed h m d f = absurd (f h)

-- what is quiet stays so while nothing happens
pub quiet_stays : (s : Setup) (a b : State) (k : ℕ) (st : Step) → SameEnds a b → b.part k ≡ a.part k
    → IsQuiet s a k st → IsQuiet s b k st
quiet_stays s a b k step.Moved e same q = q
quiet_stays s a b k (step.Waits p) e same q =
    (ap node_state_of same ∙ q.0, wait_same s a b k (writer s.graph p == k) p e same q.1)
quiet_stays s a b k step.Ended e same q =
    subst (λ (x : Part). IsDone (node_state_of x)) (sym same) q
quiet_stays s a b k step.Broken e same q =
    subst (λ (x : Part). IsDone (node_state_of x)) (sym same) q
quiet_stays s a b k step.Failed e same q = q
