-- What each pipe is, and the place of each node.
use Rattle.std.proofs.Common.{◌≡◌, ℕ, zero, suc, ◌<◌, ◌≤◌, ◌==◌, ◌⊎◌, Bool, true, false, not, cond}
use Rattle.std.proofs.Common.{List, [], ◌∷◌, length, map, get_or, refl, sym, ap, ap₂, ◌∙◌, inl, inr}
use Rattle.std.proofs.Common.{⊎_elim, arith}
use Rattle.std.specs.List.{All, Contains, count_by, filter, flat_map, position_or_len}
use Rattle.std.proofs.lemmas.Bool.{false≢true, cases_lt, and_from, and_parts, eq-eqb, eqb-true}
use Rattle.std.proofs.lemmas.Bool.{not-true}
use Rattle.std.proofs.lemmas.List.Elements.{All-append, All-map, All-filter, filter_passes}
use Rattle.std.proofs.lemmas.List.Elements.{All-contains_itself, All-nil, All-cons, All-head}
use Rattle.std.proofs.lemmas.List.Elements.{All-tail}
use Rattle.std.proofs.lemmas.List.Sums.{sum_by-cons, get_or-le-sum_by, fails_before_first}
use Rattle.std.proofs.lemmas.List.Sums.{passes_at_first}
use Rattle.planner.specs.declared.plan.NodeName.{NodeName}
use Rattle.planner.specs.declared.plan.NodeName.TheVariants.{SourceOf, StageAt, SinkOf}
use Rattle.planner.specs.declared.plan.Pipe.{Pipe}
use Rattle.planner.specs.declared.place.End.{End}
use Rattle.planner.specs.Ends.{meets, is_fed, leaves, unfed}
use Rattle.planner.specs.Tables.{is_same_node, pipe_to, pipe_to_sink, pipes_of_branch, branches_at}
use Rattle.planner.specs.Tables.{pipe_of_source, pipes_of_stage, pipes_of}

-- ---- one that passes

-- if one passes, some are counted
pub some_counted : {A : Type 0} (f : A → Bool) (xs : List A) (i : ℕ) (d : A) → i < length xs
    → f (get_or xs i d) ≡ true → 1 ≤ count_by f xs
some_counted f xs i d l e =
    let g = get_or-le-sum_by (λ y. cond (f y) 1 0) xs i d l in
    let o : ◌≡◌ {A = ℕ} (cond (f (get_or xs i d)) 1 0) 1 = ap (λ b. cond b 1 0) e in
    omega (arith, g, o)

-- if at most one passes, two that pass are one
pub same_counted : {A : Type 0} (f : A → Bool) (xs : List A) → count_by f xs ≤ 1 → (i j : ℕ) (d : A)
    → i < length xs → j < length xs → f (get_or xs i d) ≡ true → f (get_or xs j d) ≡ true → i ≡ j
same_counted f [] h i j d l m a b = absurd (omega arith)
same_counted f (x ∷ xs) h zero zero d l m a b = refl
same_counted f (x ∷ xs) h zero (suc j) d l m a b =
    let c = sum_by-cons (λ y. cond (f y) 1 0) x xs in
    let o : ◌≡◌ {A = ℕ} (cond (f x) 1 0) 1 = ap (λ t. cond t 1 0) a in
    let s = some_counted f xs j d (omega arith) b in
    absurd (omega (arith, c, o, s, h))
same_counted f (x ∷ xs) h (suc i) zero d l m a b =
    let c = sum_by-cons (λ y. cond (f y) 1 0) x xs in
    let o : ◌≡◌ {A = ℕ} (cond (f x) 1 0) 1 = ap (λ t. cond t 1 0) b in
    let s = some_counted f xs i d (omega arith) a in
    absurd (omega (arith, c, o, s, h))
same_counted f (x ∷ xs) h (suc i) (suc j) d l m a b =
    let c = sum_by-cons (λ y. cond (f y) 1 0) x xs in
    ap suc (same_counted f xs (omega (arith, c, h)) i j d (omega arith) (omega arith) a b)

-- the first that passes is no later than another that does
pub position_at_most : {A : Type 0} (f : A → Bool) (xs : List A) (i : ℕ) (d : A)
    → f (get_or xs i d) ≡ true → position_or_len f xs ≤ i
position_at_most f xs i d e =
    ⊎_elim
    (λ (h : i < position_or_len f xs). absurd (false≢true (sym (fails_before_first f xs i d h)
    ∙ e))) (λ h. h) (cases_lt i (position_or_len f xs))

-- the place of the only one that passes
pub position_of_one : {A : Type 0} (f : A → Bool) (xs : List A) → count_by f xs ≤ 1
    → (i : ℕ) (d : A) → i < length xs → f (get_or xs i d) ≡ true → position_or_len f xs ≡ i
position_of_one f xs one i d l e =
    let m = position_at_most f xs i d e in
    let w : position_or_len f xs < length xs = omega arith in
    same_counted f xs one (position_or_len f xs) i d w l (passes_at_first f xs d w) e

-- if some are counted, the first that passes is there
pub one_from : {A : Type 0} (f : A → Bool) (xs : List A) (d : A) → 1 ≤ count_by f xs
    → (position_or_len f xs < length xs) × (f (get_or xs (position_or_len f xs) d) ≡ true)
one_from {A} f xs d h =
    let w : position_or_len f xs < length xs =
    ⊎_elim (λ h. h) (λ (past : length xs ≤ position_or_len f xs). absurd (let z =
    none xs (λ i l. fails_before_first f xs i d (omega arith)) in omega (arith, z, h)))
    (cases_lt (position_or_len f xs) (length xs)) in
    (w, passes_at_first f xs d w)
  where
    none : (ys : List A) → ((i : ℕ) → i < length ys → f (get_or ys i d) ≡ false) → count_by f ys ≡ 0
    none [] h = refl
    none (y ∷ ys) h =
        let c = sum_by-cons (λ y. cond (f y) 1 0) y ys in
        let o : ◌≡◌ {A = ℕ} (cond (f y) 1 0) 0 = ap (λ t. cond t 1 0) (h 0 (omega arith)) in
        let ih = none ys (λ i l. h (suc i) (omega arith)) in
        omega (arith, c, o, ih)

-- ---- nodes

-- two nodes are the same just if they are equal
pub same_is : (a b : NodeName) → is_same_node a b ≡ true → a ≡ b
same_is (SourceOf s i) (SourceOf t j) e =
    let (x, y) = and_parts (s == t) (i == j) e in
    ap₂ SourceOf (eqb-true s t x) (eqb-true i j y)
same_is (StageAt s) (StageAt t) e = ap StageAt (eqb-true s t e)
same_is (SinkOf s i) (SinkOf t j) e =
    let (x, y) = and_parts (s == t) (i == j) e in
    ap₂ SinkOf (eqb-true s t x) (eqb-true i j y)
same_is _ _ e = absurd (cc e)

pub same_self : (a : NodeName) → is_same_node a a ≡ true
same_self (SourceOf s i) = and_from (s == s) (i == i) (eq-eqb s s refl) (eq-eqb i i refl)
same_self (StageAt s) = eq-eqb s s refl
same_self (SinkOf s b) = and_from (s == s) (b == b) (eq-eqb s s refl) (eq-eqb b b refl)

-- ---- pipes

-- a pipe from the source of an input that no stage writes; from a branch to an input that it meets;
-- from a branch to its sink
pub record FromSource (ins outs : List End) (p : Pipe) : Type 0 where
  pub x : End
  pub x_in : Contains ins x
  pub unfed : is_fed outs x ≡ false
  pub is : p ≡ pipe_of_source x

pub record ToInput (ins outs : List End) (p : Pipe) : Type 0 where
  pub o : End
  pub o_in : Contains outs o
  pub x : End
  pub x_in : Contains ins x
  pub stays : leaves o ≡ false
  pub meets : meets o x ≡ true
  pub is : p ≡ pipe_to (StageAt o.stage) o.number x

pub record ToSink (ins outs : List End) (p : Pipe) : Type 0 where
  pub o : End
  pub o_in : Contains outs o
  pub leaves : leaves o ≡ true
  pub is : p ≡ pipe_to_sink o

-- a pipe of one of these kinds
abbrev pub IsPipeOf : List End → List End → Pipe → Type 0
IsPipeOf ins outs p = FromSource ins outs p ⊎ (ToInput ins outs p ⊎ ToSink ins outs p)

-- what holds of all that is made of each holds of all
pub All-flat_map : {A B : Type 0} (P : B → Type 0) (Q : A → Type 0) (h : A → List B) (xs : List A)
    → ((x : A) → Q x → All P (h x)) → All Q xs → All P (flat_map h xs)
All-flat_map P Q h [] each all = All-nil P
All-flat_map P Q h (x ∷ xs) each all = All-append P (h x) (flat_map h xs)
    (each x (All-head Q x xs all)) (All-flat_map P Q h xs each (All-tail Q x xs all))

module _ (ins outs : List End) (order : List ℕ) where
  from_sources : All (λ x. IsPipeOf ins outs (pipe_of_source x)) (unfed ins outs)
  from_sources k d l =
      let q : End → Bool = λ i. not (is_fed outs i) in
      let a = All-filter q (Contains ins) ins (All-contains_itself ins) k d l in
      let b = filter_passes q ins k d l in
      inl (record {
        x = get_or (unfed ins outs) k d;
        x_in = a;
        unfed =
            not-true (is_fed outs (get_or (unfed ins outs) k d)) b;
        is = refl;
      })

  from_branch : (o : End) → Contains outs o → All (IsPipeOf ins outs) (pipes_of_branch ins o)
  from_branch o o_in = go (leaves o) refl
    where
      go : (b : Bool) → leaves o ≡ b
          → All (IsPipeOf ins outs)
          (cond b (pipe_to_sink o ∷ [])
          (map (pipe_to (StageAt o.stage) o.number) (filter (meets o) ins)))
      go true e = All-cons (IsPipeOf ins outs) (pipe_to_sink o) []
          (inr (inr (record { o = o; o_in = o_in; leaves = e; is = refl })))
          (All-nil (IsPipeOf ins outs))
      go false e = All-map (IsPipeOf ins outs) (pipe_to (StageAt o.stage) o.number)
          (filter (meets o) ins) (λ k d l.
          let a = All-filter (meets o) (Contains ins) ins (All-contains_itself ins) k d l in
          let b = filter_passes (meets o) ins k d l in
          inr (inl (record {
            o = o;
            o_in = o_in;
            x = get_or (filter (meets o) ins) k d;
            x_in =
                a;
            stays = e;
            meets = b;
            is = refl;
          })))

  from_stage : (s : ℕ) → All (IsPipeOf ins outs) (pipes_of_stage ins outs s)
  from_stage s = All-flat_map (IsPipeOf ins outs) (Contains outs) (pipes_of_branch ins)
      (branches_at outs s) from_branch
      (All-filter (λ (o : End). o.stage == s) (Contains outs) outs (All-contains_itself outs))

  -- each pipe is one of these
  pub kinds : All (IsPipeOf ins outs) (pipes_of ins outs order)
  kinds = All-append (IsPipeOf ins outs) (map pipe_of_source (unfed ins outs))
      (flat_map (pipes_of_stage ins outs) order)
      (All-map (IsPipeOf ins outs) pipe_of_source (unfed ins outs) from_sources)
      (All-flat_map (IsPipeOf ins outs) (λ s. Unit {0}) (pipes_of_stage ins outs) order
      (λ s u. from_stage s) (λ k d l. tt))
