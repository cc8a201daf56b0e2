-- Stages that wait by their index, and are taken in the planned order.
use Rattle.std.proofs.Common.{◌≡◌, ◌≢◌, ℕ, zero, suc, ◌+◌, ◌<◌, List, [], ◌∷◌, length, get_or, set}
use Rattle.std.proofs.Common.{take, map}
use Rattle.std.proofs.Common.{Option, Some, None, refl, ap, ◌∙◌, sym, subst, arith}
use Rattle.std.specs.Prelude.{option_map, slice_get}
use Rattle.std.specs.List.{Contains}
use Rattle.std.proofs.lemmas.List.{take_more}
use Rattle.std.proofs.lemmas.List.Elements.{Contains-append_left, Contains-push}
use Rattle.std.proofs.lemmas.Option.{slice_get-get_or, slice_get-map}
use Rattle.graphs.specs.Orders.{IsPlannedOrder}
use Rattle.planner.specs.Places.{Stage}

get_set_other : {A : Type 0} (xs : List A) (i j : ℕ) (x : A) → j ≢ i
    → slice_get (set xs i x) j ≡ slice_get xs j
get_set_other (y ∷ xs) zero zero x n = absurd (n refl)
get_set_other (y ∷ xs) (suc i) (suc j) x n = get_set_other xs i j x (λ e. n (ap suc e))
get_set_other _ _ _ x n = refl

-- an element that is there
there : {A : Type 0} (xs : List A) (k : ℕ) {o : Option (Option A)} → k < length xs
    → o ≡ option_map Some (slice_get xs k) → (x : A) × (o ≡ Some (Some x))
there [] k l e = absurd (omega arith)
there (x ∷ xs) zero l e = (x, e)
there (x ∷ xs) (suc k) l e = there xs k (omega arith) e

-- the stages that have not been taken wait
pub record AreLeft (stages : List Stage) (waiting : List (Option Stage)) (taken : List ℕ) : Type 0
  where
    pub left : (k : ℕ) → (Contains taken k → ⊥)
        → slice_get waiting k ≡ option_map Some (slice_get stages k)

pub none_taken : (stages : List Stage) (waiting : List (Option Stage)) → waiting ≡ map Some stages
    → AreLeft stages waiting []
none_taken stages waiting e = record {
  left = λ k out. ap (λ ws. slice_get ws k) e ∙ slice_get-map Some stages k;
}

module _
    (stages : List Stage) (waiting : List (Option Stage)) (pairs : List (ℕ × ℕ)) (order : List ℕ)
    (planned : IsPlannedOrder (length stages) pairs order)
    (i : ℕ) (lt : i < length order) (are : AreLeft stages waiting (take i order)) where
  abbrev next : ℕ
  next = get_or order i 0

  -- the next one is a stage
  pub next_within : next < length stages
  next_within = (planned.each i lt).ready.within

  is_left : slice_get waiting next ≡ option_map Some (slice_get stages next)
  is_left = are.left next (planned.each i lt).ready.out

  -- it waits
  pub next_waits : (s : Stage) × (slice_get waiting next ≡ Some (Some s))
  next_waits = there stages next next_within is_left

  -- what waits is the stage with this index
  pub next_is : (s : Stage) → slice_get waiting next ≡ Some (Some s) → s ≡ get_or stages next s
  next_is s e =
      let at = ap (option_map Some) (slice_get-get_or stages next s next_within) in
      let same : Some (Some s) ≡ Some (Some (get_or stages next s)) = sym e ∙ (is_left ∙ at) in
      cc

  -- the others are left
  pub others_left : (now : List (Option Stage)) → now ≡ set waiting next None
      → AreLeft stages now (take (i + 1) order)
  others_left now e = record {
    left = λ k out.
        let more = take_more order i 0 lt in
        let has = λ (j : ℕ) (ks : List ℕ). Contains ks j in
        let last = subst (has next) (sym more) (Contains-push (take i order) next) in
        let front = λ (c : Contains (take i order) k).
        subst (has k) (sym more) (Contains-append_left (take i order) (next ∷ []) k c) in
        let other : k ≢ next = λ same. out (subst (Contains (take (i
        + 1) order)) (sym same) last) in
        let kept = get_set_other waiting next k None other in
        ap (λ ws. slice_get ws k) e ∙ (kept ∙ are.left k (λ c. out (front c)));
  }
