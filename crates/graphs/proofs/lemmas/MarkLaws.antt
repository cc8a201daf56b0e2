-- What the marks and the lists of links say.
use Rattle.std.proofs.Common.{◌≡◌, ◌≢◌, ℕ, zero, suc, ◌+◌, ◌<◌, ◌≤◌, ◌==◌, ◌||◌, Bool, true, false}
use Rattle.std.proofs.Common.{not, cond, List, [], ◌∷◌, ◌++◌, length, get_or, set, take, nat_le}
use Rattle.std.proofs.Common.{refl, sym, ap, ◌∙◌, subst, ⊎_elim, arith}
use Rattle.std.specs.Global.{Vec}
use Rattle.std.specs.List.{All, Contains, count_by}
use Rattle.std.proofs.lemmas.Bool.{cases_lt, cases_eq, leb-true, eq-eqb, ne_eqb}
use Rattle.std.proofs.lemmas.List.{get_or-map, get_or-set_same, get_or-set_other, take-append-le}
use Rattle.std.proofs.lemmas.List.{take_all, get_or_append_left, get_or_push, length_push}
use Rattle.std.proofs.lemmas.List.{length-set}
use Rattle.std.proofs.lemmas.List.Elements.{All-from_get_or}
use Rattle.std.proofs.lemmas.List.Folds.{list_any-append}
use Rattle.std.proofs.lemmas.List.Sums.{sum_by-cons, sum_by-set}
use Rattle.graphs.specs.inner.Rows.{links_at}
use Rattle.graphs.specs.inner.StripSteps.{AreWithin, is_taken, left, IsBare, IsNext, left_of}
use Rattle.graphs.specs.inner.StripSteps.{IsOpen, AreMirrored, AreCounted}
use Rattle.graphs.proofs.lemmas.Marks.{AreMarks, unmarked}

pub row : (vs : List (Vec ℕ)) (k : ℕ) (v : Vec ℕ) → k < length vs → v ≡ get_or vs k v
    → v.items ≡ links_at vs k
row vs k v lt e = ap (λ u. u.items) e ∙ sym (get_or-map (λ u. u.items) vs k v [] lt)

pub row_within : (vs : List (Vec ℕ)) (n k : ℕ) (v : Vec ℕ) → k < length vs → v ≡ get_or vs k v
    → AreWithin n vs → All (λ t. t < n) v.items
row_within vs n k v lt e within =
    let P : List ℕ → Type 0 = λ xs. All (λ t. t < n) xs in
    subst P (sym (row vs k v lt e)) (All-from_get_or (λ t. t < n) (links_at vs k) 0 (within k))

-- counts by two tests that agree on the list
pub counts_agree : (f g : ℕ → Bool) (xs : List ℕ)
    → ((i : ℕ) → i < length xs → f (get_or xs i 0) ≡ g (get_or xs i 0))
    → count_by f xs ≡ count_by g xs
counts_agree f g [] h = refl
counts_agree f g (x ∷ xs) h =
    let e = h 0 (omega arith) in
    let ih = counts_agree f g xs (λ i l. h (suc i) (omega arith)) in
    let a = sum_by-cons (λ y. cond (f y) 1 0) x xs in
    let b = sum_by-cons (λ y. cond (g y) 1 0) x xs in
    let c : ◌≡◌ {A = ℕ} (cond (f x) 1 0) (cond (g x) 1 0) = ap (λ t. cond t 1 0) e in
    omega (arith, a, b, c, ih)

-- one more is taken
pub taken_more : (taken : List ℕ) (k t : ℕ)
    → is_taken (taken ++ k ∷ []) t ≡ (is_taken taken t || ((k == t) || false))
taken_more taken k t = list_any-append (λ s. s == t) taken (k ∷ [])

or_false : (a b : Bool) → b ≡ false → (a || (b || false)) ≡ a
or_false true b e = refl
or_false false b e = rw e refl

or_true : (a b : Bool) → b ≡ true → (a || (b || false)) ≡ true
or_true true b e = refl
or_true false b e = rw e refl

pub taken_same : (taken : List ℕ) (k t : ℕ) → k ≢ t
    → is_taken (taken ++ k ∷ []) t ≡ is_taken taken t
taken_same taken k t ne = taken_more taken k t
    ∙ or_false (is_taken taken t) (k == t) (ne_eqb k t ne)

pub taken_now : (taken : List ℕ) (k : ℕ) → is_taken (taken ++ k ∷ []) k ≡ true
taken_now taken k = taken_more taken k k ∙ or_true (is_taken taken k) (k == k) (eq-eqb k k refl)

pub marks_more : (taken : List ℕ) (marks : List Bool) (k : ℕ) → k < length marks
    → AreMarks taken marks → AreMarks (taken ++ k ∷ []) (set marks k true)
marks_more taken marks k lt m t h =
    let h' : t < length marks = rw length-set at h in
    ⊎_elim
    (λ (e : t ≡ k). rw e (get_or-set_same marks k true false lt ∙ sym (taken_now taken k)))
    (λ (ne : t ≡ k → ⊥). get_or-set_other marks k t true false ne
    ∙ (m t h' ∙ sym (taken_same taken k t (λ e. ne (sym e)))))
    (cases_eq t k)

module _ (most n : ℕ) (links : ℕ → List ℕ) (within : (t i : ℕ) → i < length (links t)
    → get_or (links t) i 0 < n) where
  -- what is left, by the marks
  pub left_by_marks : (taken : List ℕ) (marks : List Bool) → length marks ≡ n → AreMarks taken marks
      → (t : ℕ) → left_of marks (links t) ≡ left taken (links t)
  left_by_marks taken marks len m t =
      counts_agree (λ s. not (get_or marks s false)) (λ s. not (is_taken taken s)) (links t)
      (λ i h. ap not (m (get_or (links t) i 0) (let w = within t i h in omega arith)))

  pub bare_from_open : (taken : List ℕ) (marks : List Bool) → length marks ≡ n
      → AreMarks taken marks → (t : ℕ) → IsOpen most links marks t → IsBare most n links taken t
  bare_from_open taken marks len m t o = record {
    within = let l = o.within in omega arith;
    there = sym (m t o.within) ∙ o.there;
    few = subst (λ c. c ≤ most) (left_by_marks taken marks len m t) o.few;
  }

  pub open_from_bare : (taken : List ℕ) (marks : List Bool) → length marks ≡ n
      → AreMarks taken marks → (t : ℕ) → IsBare most n links taken t → IsOpen most links marks t
  open_from_bare taken marks len m t b =
      let l : t < length marks = let w = b.within in omega arith in
      record {
        within = l;
        there = m t l ∙ b.there;
        few =
            subst (λ c. c ≤ most) (sym (left_by_marks taken marks len m t)) b.few;
      }

  -- each so far was the next one
  pub each_more : (taken : List ℕ) (k : ℕ)
      → ((p : ℕ) → p < length taken → IsNext most n links (take p taken) (get_or taken p 0))
      → IsNext most n links taken k → (p : ℕ) → p < length (taken ++ k ∷ [])
      → IsNext most n links (take p (taken ++ k ∷ [])) (get_or (taken ++ k ∷ []) p 0)
  each_more taken k each next p lt =
      let l = length_push taken k in
      let old : p < length taken
      → IsNext most n links (take p (taken ++ k ∷ [])) (get_or (taken ++ k ∷ []) p 0) =
      λ h. rw (
        take-append-le p taken (k ∷ []) (omega arith),
        get_or_append_left taken (k ∷ []) 0 p h,
      ) (each p h) in
      let new : length taken ≤ p
      → IsNext most n links (take p (taken ++ k ∷ [])) (get_or (taken ++ k ∷ []) p 0) =
      λ h. let e : p ≡ length taken = omega arith in
      rw (
        e,
        take-append-le (length taken) taken (k ∷ []) (omega arith),
        take_all (length taken) taken (omega arith),
        get_or_push taken k 0 (length taken) refl,
      )
      next in
      ⊎_elim old new (cases_lt p (length taken))

  -- a node below the lowest that k leads back to is as it was
  pub still_shut : (back : ℕ → List ℕ) (marks : List Bool) (k low : ℕ) → length marks ≡ n
      → AreMirrored n links back → low ≤ k → All (λ t. low ≤ t) (back k) → (t : ℕ) → t < low
      → IsOpen most links (set marks k true) t → IsOpen most links marks t
  still_shut back marks k low len mirrored lk lows t h o =
      let w : t < length marks = rw length-set at o.within in
      let tn : t < n = omega arith in
      let ne : t ≢ k = λ e. let d : t < k = omega arith in omega arith in
      let same : left_of (set marks k true) (links t) ≡ left_of marks (links t) =
      counts_agree (λ s. not (get_or (set marks k true) s false)) (λ s. not (get_or marks s false))
      (links t)
      (λ i l. ap not (get_or-set_other marks k (get_or (links t) i 0) true false
      (λ e. below back k low lows t h
      (subst (λ s. Contains (back s) t) e (mirrored t i tn l))))) in
      record {
        within = w;
        there = sym (get_or-set_other marks k t true false ne) ∙ o.there;
        few = subst (λ c. c ≤ most) same o.few;
      }
    where
      below : (back : ℕ → List ℕ) (k low : ℕ) → All (λ t. low ≤ t) (back k) → (t : ℕ) → t < low
          → Contains (back k) t → ⊥
      below back k low lows t h (i, l, e) =
          let g : low ≤ get_or (back k) i t = lows i t l in
          omega (arith, g, e)

pub unmarked_less : (marks : List Bool) (k : ℕ) → k < length marks → get_or marks k false ≡ false
    → unmarked (set marks k true) + 1 ≡ unmarked marks
unmarked_less marks k lt e =
    let s = sum_by-set (λ b. cond (not b) 1 0) marks k true false lt in
    let z : ◌≡◌ {A = ℕ} (cond (not (get_or marks k false)) 1 0) 1 = ap (λ b. cond (not b) 1 0) e in
    omega (arith, s, z)

-- none is without a mark, or one is
pub all_marked : (marks : List Bool) → unmarked marks ≡ 0 → (t : ℕ) → t < length marks
    → get_or marks t false ≡ true
all_marked [] e t lt = absurd (omega arith)
all_marked (false ∷ marks) e t lt =
    absurd (let s = sum_by-cons (λ b. cond (not b) 1 0) false marks in omega (arith, s, e))
all_marked (true ∷ marks) e zero lt = refl
all_marked (true ∷ marks) e (suc t) lt =
    all_marked marks (let s = sum_by-cons (λ b. cond (not b) 1 0) true marks in
    omega (arith, s, e)) t (omega arith)

pub some_unmarked : (marks : List Bool) → 0 < unmarked marks
    → (t : ℕ) × (t < length marks) × (get_or marks t false ≡ false)
some_unmarked [] h = absurd (omega arith)
some_unmarked (false ∷ marks) h = (0, omega arith, refl)
some_unmarked (true ∷ marks) h =
    let (t, l, e) = some_unmarked marks (let s = sum_by-cons (λ b. cond (not b) 1 0) true marks in
    omega (arith, s, h)) in
    (suc t, omega arith, e)

pub counted_by : (n : ℕ) (taken : List ℕ) (marks : List Bool) → length marks ≡ n
    → AreMarks taken marks → length taken + unmarked marks ≡ n → AreCounted n taken
counted_by n taken marks len m c = record {
  all = λ e t lt. let l : t < length marks = omega arith in sym (m t l)
      ∙ all_marked marks (omega arith) t l;
  some = λ ne. by_case (some_unmarked marks (omega arith));
}
  where
    by_case : (t : ℕ) × (t < length marks) × (get_or marks t false ≡ false)
        → (t : ℕ) × (t < n) × (is_taken taken t ≡ false)
    by_case (t, l, e) = (t, omega arith, sym (m t l) ∙ e)

-- whether a node is open, by what the two tests of the code say
pub open_by : (most : ℕ) (vs : List (Vec ℕ)) (marks : List Bool) (k : ℕ) (v : Vec ℕ) → k < length vs
    → v ≡ get_or vs k v → k < length marks → get_or marks k false ≡ false
    → nat_le (left_of marks v.items) most ≡ true → IsOpen most (links_at vs) marks k
open_by most vs marks k v lt e lm there few =
    let r = row vs k v lt e in
    record {
      within = lm;
      there = there;
      few =
          subst (λ xs. left_of marks xs ≤ most) r (leb-true _ _ few);
    }

-- one more node is taken: the loop's invariant, part by part
module _ (most n : ℕ) (links back : ℕ → List ℕ) (within : (t i : ℕ) → i < length (links t)
    → get_or (links t) i 0 < n) (taken : List ℕ) (marks : List Bool) (k : ℕ)
    (len : length marks ≡ n) (m : AreMarks taken marks) (open' : IsOpen most links marks k) where
  pub next_one : (from : ℕ) → ((t : ℕ) → t < from → IsOpen most links marks t → ⊥)
      → ((t : ℕ) → from ≤ t → t < k → IsOpen most links marks t → ⊥) → IsNext most n links taken k
  next_one from shut low = record {
    bare = bare_from_open most n links within taken marks len m k open';
    lowest = λ t h b.
        let o = open_from_bare most n links within taken marks len m t b in
        ⊎_elim (λ (l : t < from). shut t l o) (λ (l : from ≤ t). low t l h o) (cases_lt t from);
  }

  pub shut_below : (from low : ℕ) → AreMirrored n links back
      → ((t : ℕ) → t < from → IsOpen most links marks t → ⊥)
      → ((t : ℕ) → from ≤ t → t < k → IsOpen most links marks t → ⊥) → low ≤ k
      → All (λ t. low ≤ t) (back k) → (t : ℕ) → t < low → IsOpen most links (set marks k true) t → ⊥
  shut_below from low mirrored shut lows lk each t h o =
      let o' = still_shut most n links within back marks k low len mirrored lk each t h o in
      ⊎_elim (λ (l : t < from). shut t l o') (λ (l : from ≤ t). lows t l (omega arith) o')
      (cases_lt t from)
