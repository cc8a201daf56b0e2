-- What a stage owes and waits for, over its own ends and over the state; and which of two sums
-- grew.
use Rattle.std.proofs.Common.{◌≡◌, ℕ, zero, suc, ◌+◌, ◌<◌, ◌≤◌, List, [], ◌∷◌, Bool, true, false}
use Rattle.std.proofs.Common.{Option, Some, get_or, length, map, refl, ap, ◌∙◌, sym, subst, arith}
use Rattle.std.proofs.Common.{⊎_elim}
use Rattle.std.specs.Prelude.{slice_get, unwrap_or, is_some, if◌then◌else◌}
use Rattle.std.specs.List.{AllZip, AllByRecursion, sum_by, fold}
use Rattle.std.proofs.lemmas.Bool.{cases_lt, false≢true}
use Rattle.splice_tee.specs.declared.branches.Served.{Served}
use Rattle.stages.specs.Stages.{StagePart}
use Rattle.stages.specs.Owed.{branch_owed, owed_size}
use Rattle.stages.specs.Waits.{OwedAreFull, IsFirstFull, NothingIsOwed, IsBareInput}
use Rattle.network_laws.specs.State.{State}
use Rattle.network_laws.specs.Waits.{owed_to, IsFullAt, IsBareAt}

no_place : {A : Type 0} (p : A) (b : ℕ) → slice_get {X = A} [] b ≡ Some p → ⊥
no_place p b e = false≢true (ap (λ o. is_some o) e)

-- related place by place, over a list that is made of the pipes' numbers
pub zip_own : {A B : Type 0} (R : A → B → Type 0) (f : ℕ → B) (d : A) (xs : List A) (pipes : List ℕ)
    → length xs ≡ length pipes → ((b p : ℕ) → slice_get pipes b ≡ Some p → R (get_or xs b d) (f p))
    → AllZip R xs (map f pipes)
zip_own R f d [] [] count each = tt
zip_own R f d (x ∷ xs) (p ∷ pipes) count each =
    (each 0 p refl, zip_own R f d xs pipes (omega (arith, count)) (λ b q h. each (suc b) q h))
zip_own R f d _ _ count each = absurd (omega (arith, count))

module _ (st : State) (x : StagePart) where
  owed_more : (p : ℕ) (pipes : List ℕ) (s : Served) (served : List Served) (b : Bool)
      → branch_owed x (st.writing p) s ≡ b
      → owed_to st x (p ∷ pipes) (s ∷ served)
      ≡ (if b then p ∷ owed_to st x pipes served else owed_to st x pipes served)
  owed_more p pipes s served b e =
      ap (λ (c : Bool). if c then p ∷ owed_to st x pipes served else owed_to st x pipes served) e

  owed_case : (p : ℕ) (pipes : List ℕ) (s : Served) (served : List Served) (b : Bool)
      → branch_owed x (st.writing p) s ≡ b → (b ≡ true → IsFullAt st (owed_size x) p)
      → AllByRecursion (IsFullAt st (owed_size x)) (owed_to st x pipes served)
      → AllByRecursion (IsFullAt st (owed_size x)) (owed_to st x (p ∷ pipes) (s ∷ served))
  owed_case p pipes s served true e full rest =
      subst (λ (l : List ℕ). AllByRecursion (IsFullAt st (owed_size x)) l)
      (sym (owed_more p pipes s served true e)) (full refl, rest)
  owed_case p pipes s served false e full rest =
      subst (λ (l : List ℕ). AllByRecursion (IsFullAt st (owed_size x)) l)
      (sym (owed_more p pipes s served false e)) rest

  owed_full : (pipes : List ℕ) (served : List Served)
      → OwedAreFull x (map st.writing pipes) served (map st.reading pipes)
      → AllByRecursion (IsFullAt st (owed_size x)) (owed_to st x pipes served)
  owed_full [] served h = tt
  owed_full (p ∷ pipes) [] h = tt
  owed_full (p ∷ pipes) (s ∷ served) h = owed_case p pipes s served
      (branch_owed x (st.writing p) s) refl h.0 (owed_full pipes served h.1)

  pub first_owed : (pipes : List ℕ) (served : List Served) (k p : ℕ) → slice_get pipes k ≡ Some p
      → IsFirstFull x (map st.writing pipes) served (map st.reading pipes) k
      → (more : List ℕ) × (owed_to st x pipes served ≡ p ∷ more)
      × AllByRecursion (IsFullAt st (owed_size x)) (p ∷ more)
  first_owed [] served k p e h = absurd (no_place p k e)
  first_owed (q ∷ pipes) [] k p e h = absurd h
  first_owed (q ∷ pipes) (s ∷ served) zero p e h =
      let same : q ≡ p = ap (λ (o : Option ℕ). unwrap_or o 0) e in (
        owed_to st x pipes served,
        owed_more q pipes s served true h.0
            ∙ ap (λ (i : ℕ). i ∷ owed_to st x pipes served) same,
        (subst (IsFullAt st (owed_size x)) same h.1, owed_full pipes served h.2),
      )
  first_owed (q ∷ pipes) (s ∷ served) (suc k) p e h =
      let r = first_owed pipes served k p e h.1 in
      (r.0, owed_more q pipes s served false h.0 ∙ r.1, r.2)

  pub none_owed : (pipes : List ℕ) (served : List Served)
      → NothingIsOwed x (map st.writing pipes) served → owed_to st x pipes served ≡ []
  none_owed [] served h = refl
  none_owed (p ∷ pipes) [] h = absurd h
  none_owed (p ∷ pipes) (s ∷ served) h = owed_more p pipes s served false h.0
      ∙ none_owed pipes served h.1

pub bare_at : (st : State) (pipes : List ℕ) (k p : ℕ) → slice_get pipes k ≡ Some p
    → IsBareInput (map st.writing pipes) (map st.reading pipes) k → IsBareAt st p
bare_at st [] k p e h = absurd h
bare_at st (q ∷ pipes) zero p e h = subst (IsBareAt st) (ap (λ (o : Option ℕ). unwrap_or o 0) e) h
bare_at st (q ∷ pipes) (suc k) p e h = bare_at st pipes k p e h

-- if a sum grew and no part of it shrank, a part grew
grew_from : {A : Type 0} (f : A → ℕ) (d : A) (xs ys : List A) (m n : ℕ) → n ≤ m
    → AllZip (λ x y. f x ≤ f y) xs ys → fold (λ a x. a + f x) m xs < fold (λ a x. a + f x) n ys
    → (b : ℕ) × (b < length xs) × (f (get_or xs b d) < f (get_or ys b d))
grew_from f d [] [] m n le all lt = absurd (omega (arith, le, lt))
grew_from f d (x ∷ xs) (y ∷ ys) m n le all lt = ⊎_elim
    (λ here. (0, omega arith, here))
    (λ less. let r = grew_from f d xs ys (m + f x) (n + f y) (omega (arith, less, le)) all.1 lt in
    (suc r.0, omega (arith, r.1), r.2))
    (cases_lt (f x) (f y))
grew_from f d _ _ m n le all lt = absurd all

pub grew_at : {A : Type 0} (f : A → ℕ) (d : A) (xs ys : List A) → AllZip (λ x y. f x ≤ f y) xs ys
    → sum_by f xs < sum_by f ys → (b : ℕ) × (b < length xs)
    × (f (get_or xs b d) < f (get_or ys b d))
grew_at f d xs ys all lt = grew_from f d xs ys 0 0 (omega arith) all lt
