-- A graph whose nodes list the pipes that its table gives them is a plan.
use Rattle.std.proofs.Common.{◌≡◌, ℕ, zero, suc, ◌+◌, ◌<◌, Bool, cond, List, [], ◌∷◌, length}
use Rattle.std.proofs.Common.{get_or, Option, Some, slice_get, refl, sym, ap, subst, inl, inr}
use Rattle.std.proofs.Common.{⊎_elim, ne_eqb, eq-eqb, arith}
use Rattle.std.specs.Prelude.{if◌then◌else◌, ◌==◌}
use Rattle.std.specs.List.{AllByRecursion}
use Rattle.std.proofs.lemmas.Bool.{cases_eq}
use Rattle.graphs.specs.Graph.{Graph, GraphNode, IsNode, Writes, Reads, present, IsAmong}
use Rattle.graphs.specs.Graph.{AreDistinct, HasNone, HasOne, AreAll, IsWired, IsPlan}

-- the pipes, from number i on, that have this end at the node k
abbrev pub own_pipes : (ℕ × ℕ → ℕ) → ℕ → ℕ → List (ℕ × ℕ) → List ℕ
own_pipes end k i [] = []
own_pipes end k i (e ∷ pipes) = if end e == k then i ∷ own_pipes end k
    (i + 1) pipes else own_pipes end k (i + 1) pipes

abbrev pub writes_of : Graph → ℕ → List ℕ
writes_of g k = own_pipes (λ e. e.0) k 0 g.pipes

abbrev pub reads_of : Graph → ℕ → List ℕ
reads_of g k = own_pipes (λ e. e.1) k 0 g.pipes

module _ (end : ℕ × ℕ → ℕ) (k : ℕ) where
  chosen : (i : ℕ) (e : ℕ × ℕ) (pipes : List (ℕ × ℕ)) → end e ≡ k
      → own_pipes end k i (e ∷ pipes) ≡ i ∷ own_pipes end k (i + 1) pipes
  chosen i e pipes h =
      ap (λ (t : Bool). cond t (i ∷ own_pipes end k (i + 1) pipes) (own_pipes end k (i + 1) pipes))
      (eq-eqb (end e) k h)

  passed : (i : ℕ) (e : ℕ × ℕ) (pipes : List (ℕ × ℕ)) → (end e ≡ k → ⊥)
      → own_pipes end k i (e ∷ pipes) ≡ own_pipes end k (i + 1) pipes
  passed i e pipes h =
      ap (λ (t : Bool). cond t (i ∷ own_pipes end k (i + 1) pipes) (own_pipes end k (i + 1) pipes))
      (ne_eqb (end e) k h)

  own_among : (i j : ℕ) (pipes : List (ℕ × ℕ)) → j < length pipes → end (get_or pipes j (0, 0)) ≡ k
      → IsAmong (i + j) (own_pipes end k i pipes)
  own_among i j [] lt h = absurd (omega arith)
  own_among i zero (e ∷ pipes) lt h = subst (IsAmong (i + 0)) (sym (chosen i e pipes h))
      (inl (omega arith))
  own_among i (suc j) (e ∷ pipes) lt h =
      let o : (i + 1) + j ≡ i + suc j = omega arith in
      let rest : IsAmong (i + suc j) (own_pipes end k (i + 1) pipes) =
      subst (λ (n : ℕ). IsAmong n (own_pipes end k (i + 1) pipes)) o
      (own_among (i + 1) j pipes (let l : j < length pipes = omega arith in l) h) in
      ⊎_elim
      (λ c. subst (IsAmong (i + suc j)) (sym (chosen i e pipes c)) (inr rest))
      (λ n. subst (IsAmong (i + suc j)) (sym (passed i e pipes n)) rest)
      (cases_eq (end e) k)

  -- the place of a member of the list in the table
  record IsPlace (i p : ℕ) (pipes : List (ℕ × ℕ)) : Type 0 where
    place : ℕ
    at : p ≡ i + place
    within : place < length pipes
    own : end (get_or pipes place (0, 0)) ≡ k

  later_place : (i p : ℕ) (e : ℕ × ℕ) (pipes : List (ℕ × ℕ)) → IsPlace (i + 1) p pipes
      → IsPlace i p (e ∷ pipes)
  later_place i p e pipes h = record {
    place = suc h.place;
    at =
        (let o = h.at in omega arith);
    within = (let o = h.within in omega arith);
    own = h.own;
  }

  among_own : (i p : ℕ) (pipes : List (ℕ × ℕ)) → IsAmong p (own_pipes end k i pipes)
      → IsPlace i p pipes
  among_own i p [] m = absurd m
  among_own i p (e ∷ pipes) m = ⊎_elim
      (λ c. ⊎_elim
      (λ here. record { place = 0; at = omega arith; within = omega arith; own = c })
      (λ there. later_place i p e pipes (among_own (i + 1) p pipes there))
      (subst (IsAmong p) (chosen i e pipes c) m))
      (λ n. later_place i p e pipes
      (among_own (i + 1) p pipes (subst (IsAmong p) (passed i e pipes n) m)))
      (cases_eq (end e) k)

  own_distinct : (i : ℕ) (pipes : List (ℕ × ℕ)) → AreDistinct (own_pipes end k i pipes)
  own_distinct i [] = tt
  own_distinct i (e ∷ pipes) = ⊎_elim
      (λ c. subst AreDistinct (sym (chosen i e pipes c)) (
        (λ m. let h = among_own (i + 1) i pipes m in let o = h.at in omega arith),
        own_distinct (i + 1) pipes,
      ))
      (λ n. subst AreDistinct (sym (passed i e pipes n)) (own_distinct (i + 1) pipes))
      (cases_eq (end e) k)

  own_are_all : (pipes : List (ℕ × ℕ))
      → AreAll (λ p. (p < length pipes) × (end (get_or pipes p (0, 0)) ≡ k))
      (own_pipes end k 0 pipes)
  own_are_all pipes = record {
    each = λ p. (
      (λ r. let o : 0 + p ≡ p = omega arith in
          subst (λ (n : ℕ). IsAmong n (own_pipes end k 0 pipes)) o (own_among 0 p pipes r.0 r.1)),
      (λ m. let h = among_own 0 p pipes m in let o : h.place ≡ p = (let a = h.at in omega arith) in
          subst (λ (n : ℕ). (n < length pipes) × (end (get_or pipes n (0, 0)) ≡ k)) o
          (h.within, h.own)),
    );
    once = own_distinct 0 pipes;
  }

all_none : (P : ℕ → Type 0) → AreAll P [] → HasNone P
all_none P a p h = (a.each p).0 h

all_one : (P : ℕ → Type 0) (p : ℕ) → AreAll P (p ∷ []) → HasOne P
all_one P p a =
    (p, (a.each p).1 (inl refl), λ q h. ⊎_elim (λ e. e) (λ m. absurd m) ((a.each q).0 h))

module _ (g : Graph) (k : ℕ) where
  pub writes_are : (pipes : List ℕ) → pipes ≡ writes_of g k → AreAll (Writes g k) pipes
  writes_are pipes e = subst (AreAll (Writes g k)) (sym e) (own_are_all (λ t. t.0) k g.pipes)

  pub reads_are : (pipes : List ℕ) → pipes ≡ reads_of g k → AreAll (Reads g k) pipes
  reads_are pipes e = subst (AreAll (Reads g k)) (sym e) (own_are_all (λ t. t.1) k g.pipes)

  pub source_wired : (p : ℕ) → [] ≡ reads_of g k → p ∷ [] ≡ writes_of g k
      → HasNone (Reads g k) × HasOne (Writes g k)
  source_wired p r w = (
    all_none (Reads g k) (reads_are [] r),
    all_one (Writes g k) p (writes_are (p ∷ []) w),
  )

  pub sink_wired : (p : ℕ) → [] ≡ writes_of g k → p ∷ [] ≡ reads_of g k
      → HasNone (Writes g k) × HasOne (Reads g k)
  sink_wired p w r = (
    all_none (Writes g k) (writes_are [] w),
    all_one (Reads g k) p (reads_are (p ∷ []) r),
  )

  pub stage_wired : (inputs : List ℕ) (branches : List (Option ℕ)) → inputs ≡ reads_of g k
      → present branches ≡ writes_of g k → AreAll (Reads g k) inputs
      × AreAll (Writes g k) (present branches)
  stage_wired inputs branches r w = (reads_are inputs r, writes_are (present branches) w)

  -- the one pipe of a source or a sink
  pub only_write : (p : ℕ) → p ∷ [] ≡ writes_of g k → (q : ℕ) → Writes g k q → q ≡ p
  only_write p e q w = ⊎_elim (λ h. h) (λ m. absurd m) (((writes_are (p ∷ []) e).each q).0 w)

  pub only_read : (p : ℕ) → p ∷ [] ≡ reads_of g k → (q : ℕ) → Reads g k q → q ≡ p
  only_read p e q r = ⊎_elim (λ h. h) (λ m. absurd m) (((reads_are (p ∷ []) e).each q).0 r)

-- each node from number i on is wired
abbrev pub EachWired : Graph → ℕ → List GraphNode → Type 0
EachWired g i [] = Unit {0}
EachWired g i (node ∷ nodes) = IsWired g i node × EachWired g (i + 1) nodes

wired_at : (g : Graph) (i k : ℕ) (nodes : List GraphNode) (node : GraphNode) → EachWired g i nodes
    → slice_get nodes k ≡ Some node → IsWired g (i + k) node
wired_at g i k [] node w e = absurd (grind (arith, e))
wired_at g i zero (n ∷ nodes) node w e =
    let same : n ≡ node = cc e in
    let o : i ≡ i + 0 = omega arith in
    subst (λ (m : ℕ). IsWired g m node) o (subst (IsWired g i) same w.0)
wired_at g i (suc k) (n ∷ nodes) node w e =
    let o : (i + 1) + k ≡ i + suc k = omega arith in
    subst (λ (m : ℕ). IsWired g m node) o (wired_at g (i + 1) k nodes node w.1 e)

at_each : {A : Type 0} (P : A → Type 0) (xs : List A) (i : ℕ) (d : A) → AllByRecursion P xs
    → i < length xs → P (get_or xs i d)
at_each P [] i d a lt = absurd (omega arith)
at_each P (x ∷ xs) zero d a lt = a.0
at_each P (x ∷ xs) (suc i) d a lt = at_each P xs i d a.1 (let l : i < length xs = omega arith in l)

-- a graph whose pipes go forward and whose nodes are wired is a plan
pub plan_from : (g : Graph) → AllByRecursion (λ e. (e.0 < e.1) × (e.1 < length g.nodes)) g.pipes
    → EachWired g 0 g.nodes → IsNode g g.result.0 → IsPlan g
plan_from g pipes wired result = record {
  before = λ p is. (at_each (λ (e : ℕ × ℕ). (e.0 < e.1) × (e.1 < length g.nodes)) g.pipes p
      (0, 0) pipes is).0;
  within = λ p is. (at_each (λ (e : ℕ × ℕ). (e.0 < e.1) × (e.1 < length g.nodes)) g.pipes p
      (0, 0) pipes is).1;
  wired = λ k node e. let o : 0 + k ≡ k = omega arith in
      subst (λ (m : ℕ). IsWired g m node) o (wired_at g 0 k g.nodes node wired e);
  result = result;
}
