-- What a table's rows have, and what was taken, in the words of orders.
use Rattle.std.proofs.Common.{◌≡◌, ℕ, zero, suc, ◌+◌, ◌<◌, ◌≤◌, ◌==◌, ◌||◌, Bool, true, false, not}
use Rattle.std.proofs.Common.{cond, List, [], ◌∷◌, ◌++◌, length, map, get_or, take, refl, sym, ap}
use Rattle.std.proofs.Common.{ap₂, ◌∙◌, subst, ⊎_elim, arith}
use Rattle.std.specs.List.{All, Contains, count_by, filter, position_or_len}
use Rattle.std.proofs.lemmas.Bool.{false≢true, cases_Bool, cases_lt, cases_order, eq-eqb, eqb-true}
use Rattle.std.proofs.lemmas.List.{get_or-map, length-map, length-take-le, get_or-take}
use Rattle.std.proofs.lemmas.List.{get_or_default, take_more, take_all}
use Rattle.std.proofs.lemmas.List.Folds.{list_any_at}
use Rattle.std.proofs.lemmas.List.Sums.{sum_by-cons, fails_before_first, passes_at_first}
use Rattle.std.specs.Global.{Vec}
use Rattle.graphs.specs.inner.Rows.{links_at}
use Rattle.graphs.specs.inner.StripSteps.{AreWithin, is_taken, left, IsBare, IsStripped}
use Rattle.graphs.specs.inner.StripSteps.{AreMirrored}
use Rattle.graphs.specs.inner.Rows.{row, flipped}
use Rattle.graphs.specs.Orders.{Joins, IsReady, IsLowestReady, IsPlannedOrder, HasNoOrder}
use Rattle.graphs.specs.Orders.{PlannedIsOrder, PlannedIsOne}

pub taken_of : (taken : List ℕ) (t : ℕ) → Contains taken t → is_taken taken t ≡ true
taken_of taken t (k, l, e) = list_any_at (λ s. s == t) taken k t l (eq-eqb (get_or taken k t) t e)

pub contains_of : (taken : List ℕ) (t : ℕ) → is_taken taken t ≡ true → Contains taken t
contains_of [] t e = absurd (cc e)
contains_of (s ∷ taken) t e = by_case (s == t) refl e (contains_of taken t)
  where
    by_case : (b : Bool) → (s == t) ≡ b → (b || is_taken taken t) ≡ true
        → (is_taken taken t ≡ true → Contains taken t) → Contains (s ∷ taken) t
    by_case true h e ih = (0, omega arith, eqb-true s t h)
    by_case false h e ih = let (k, l, f) = ih e in (suc k, omega arith, f)

-- what is in a row
pub in_row : (ends : List (ℕ × ℕ)) (k i : ℕ) → i < length (row ends k)
    → Joins ends k (get_or (row ends k) i 0)
in_row [] k i l = absurd (omega arith)
in_row (e ∷ ends) k i l = by_case (e.0 == k) refl (in_row ends k) i l
  where
    later : (t : ℕ) → Joins ends k t → Joins (e ∷ ends) k t
    later t (j, l, a, b) = (suc j, omega arith, a, b)

    by_case : (b : Bool) → (e.0 == k) ≡ b
        → ((i : ℕ) → i < length (row ends k) → Joins ends k (get_or (row ends k) i 0)) → (i : ℕ)
        → i < length
        (map (λ (p : ℕ × ℕ). p.1) (cond b (e ∷ filter (λ p. p.0 == k) ends)
        (filter (λ p. p.0 == k) ends)))
        → Joins (e ∷ ends) k
        (get_or
        (map (λ (p : ℕ × ℕ). p.1) (cond b (e ∷ filter (λ p. p.0 == k) ends)
        (filter (λ p. p.0 == k) ends))) i 0)
    by_case true h ih zero l = (0, omega arith, eqb-true e.0 k h, refl)
    by_case true h ih (suc i) l = later (get_or (row ends k) i 0) (ih i (omega arith))
    by_case false h ih i l = later (get_or (row ends k) i 0) (ih i l)

pub joined_in_row : (ends : List (ℕ × ℕ)) (k t : ℕ) → Joins ends k t → Contains (row ends k) t
joined_in_row [] k t (i, l, a, b) = absurd (omega arith)
joined_in_row (e ∷ ends) k t (zero, l, a, b) = by_case (e.0 == k) (eq-eqb e.0 k a)
  where
    by_case : (v : Bool) → v ≡ true
        → Contains
        (map (λ (p : ℕ × ℕ). p.1) (cond v (e ∷ filter (λ p. p.0 == k) ends)
        (filter (λ p. p.0 == k) ends))) t
    by_case true h = (0, omega arith, b)
    by_case false h = absurd (cc h)
joined_in_row (e ∷ ends) k t (suc i, l, a, b) =
    by_case (e.0 == k) (joined_in_row ends k t (i, omega arith, a, b))
  where
    by_case : (v : Bool) → Contains (row ends k) t
        → Contains
        (map (λ (p : ℕ × ℕ). p.1) (cond v (e ∷ filter (λ p. p.0 == k) ends)
        (filter (λ p. p.0 == k) ends))) t
    by_case true (j, l, f) = (suc j, omega arith, f)
    by_case false c = c

pub unflip : (ends : List (ℕ × ℕ)) (s t : ℕ) → Joins (flipped ends) t s → Joins ends s t
unflip ends s t (i, l, a, b) =
    let f : ℕ × ℕ → ℕ × ℕ = λ e. (e.1, e.0) in
    let l' : i < length ends = let n = length-map ends f in omega arith in
    let g = get_or-map f ends i (0, 0) (0, 0) l' in
    (i, l', sym (ap (λ (e : ℕ × ℕ). e.1) g) ∙ b, sym (ap (λ (e : ℕ × ℕ). e.0) g) ∙ a)

pub flip_joined : (ends : List (ℕ × ℕ)) (s t : ℕ) → Joins ends s t → Joins (flipped ends) t s
flip_joined ends s t (i, l, a, b) =
    let f : ℕ × ℕ → ℕ × ℕ = λ e. (e.1, e.0) in
    let l' : i < length (flipped ends) = let n = length-map ends f in omega arith in
    let g = get_or-map f ends i (0, 0) (0, 0) l in
    (i, l', ap (λ (e : ℕ × ℕ). e.0) g ∙ b, ap (λ (e : ℕ × ℕ). e.1) g ∙ a)

pub none_counted : (f : ℕ → Bool) (xs : List ℕ) → count_by f xs ≤ 0 → (i : ℕ) → i < length xs
    → f (get_or xs i 0) ≡ false
none_counted f [] h i l = absurd (omega arith)
none_counted f (x ∷ xs) h i l = by_case (f x) refl (none_counted f xs) i l
  where
    by_case : (b : Bool) → f x ≡ b
        → (count_by f xs ≤ 0 → (i : ℕ) → i < length xs → f (get_or xs i 0) ≡ false) → (i : ℕ)
        → i < length (x ∷ xs) → f (get_or (x ∷ xs) i 0) ≡ false
    by_case true e ih i l =
        let s = sum_by-cons (λ y. cond (f y) 1 0) x xs in
        let z : ◌≡◌ {A = ℕ} (cond (f x) 1 0) 1 = ap (λ b. cond b 1 0) e in
        absurd (omega (arith, s, z, h))
    by_case false e ih zero l = e
    by_case false e ih (suc i) l =
        let s = sum_by-cons (λ y. cond (f y) 1 0) x xs in
        ih (omega (arith, s, h)) i (omega arith)

pub zero_counted : (f : ℕ → Bool) (xs : List ℕ)
    → ((i : ℕ) → i < length xs → f (get_or xs i 0) ≡ false) → count_by f xs ≤ 0
zero_counted f [] h = omega arith
zero_counted f (x ∷ xs) h =
    let s = sum_by-cons (λ y. cond (f y) 1 0) x xs in
    let z : ◌≡◌ {A = ℕ} (cond (f x) 1 0) 0 = ap (λ b. cond b 1 0) (h 0 (omega arith)) in
    let ih = zero_counted f xs (λ i l. h (suc i) (omega arith)) in
    omega (arith, s, z, ih)

not_of_true : (b : Bool) → b ≡ true → not b ≡ false
not_of_true b e = ap not e

true_of_not : (b : Bool) → not b ≡ false → b ≡ true
true_of_not true e = refl
true_of_not false e = absurd (cc e)

module _ (n : ℕ) (pipes : List (ℕ × ℕ)) (links : ℕ → List ℕ) (rows : (t : ℕ)
    → links t ≡ row (flipped pipes) t) where
  -- ready is to have no writer left
  pub ready_from_bare : (in_place : List ℕ) (t : ℕ) → IsBare 0 n links in_place t
      → IsReady n pipes in_place t
  ready_from_bare in_place t b = record {
    within = b.within;
    out = λ c. false≢true (sym b.there ∙ taken_of in_place t c);
    fed = λ s j. by_case s (joined_in_row (flipped pipes) t s (flip_joined pipes s t j));
  }
    where
      by_case : (s : ℕ) → Contains (row (flipped pipes) t) s → Contains in_place s
      by_case s (i, l, e) =
          let xs = row (flipped pipes) t in
          let few : left in_place xs ≤ 0 = subst (λ ys. left in_place ys ≤ 0) (rows t) b.few in
          let z = none_counted (λ u. not (is_taken in_place u)) xs few i l in
          let same : get_or xs i 0 ≡ s = get_or_default xs i 0 s l ∙ e in
          contains_of in_place s (true_of_not (is_taken in_place s)
          (ap (λ u. not (is_taken in_place u)) (sym same) ∙ z))

  pub bare_from_ready : (in_place : List ℕ) (t : ℕ) → IsReady n pipes in_place t
      → IsBare 0 n links in_place t
  bare_from_ready in_place t r = record {
    within = r.within;
    there = ⊎_elim (λ e. absurd (r.out (contains_of in_place t e))) (λ e. e)
        (cases_Bool (is_taken in_place t));
    few = subst (λ ys. left in_place ys ≤ 0) (sym (rows t))
        (zero_counted (λ u. not (is_taken in_place u)) (row (flipped pipes) t)
        (λ i l. not_of_true (is_taken in_place (get_or (row (flipped pipes) t) i 0))
        (taken_of in_place (get_or (row (flipped pipes) t) i 0)
        (r.fed (get_or (row (flipped pipes) t) i 0)
        (unflip pipes (get_or (row (flipped pipes) t) i 0) t (in_row (flipped pipes) t i l))))));
  }

  pub planned : (order : List ℕ) → IsStripped 0 n links order
      → ((t : ℕ) → t < n → is_taken order t ≡ true) → IsPlannedOrder n pipes order
  planned order s all = record {
    each = λ p l.
        let x = s.each p l in
        record {
          ready = ready_from_bare (take p order) (get_or order p 0) x.bare;
          lowest = λ t h r. x.lowest t h (bare_from_ready (take p order) t r);
        };
    all = λ t l. contains_of order t (all t l);
  }

  -- if one is left over, there is no order at all
  pub unordered : (order : List ℕ) → IsStripped 0 n links order
      → ((s t : ℕ) → Joins pipes s t → (s < n) × (t < n)) → (t : ℕ) → t < n
      → is_taken order t ≡ false → HasNoOrder pipes
  unordered order stripped within t tn out place ordered =
      false≢true (sym out ∙ claim (suc (place t)) t tn (omega arith))
    where
      claim : (m t : ℕ) → t < n → place t < m → is_taken order t ≡ true
      claim zero t tn l = absurd (omega arith)
      claim (suc m) t tn l = ⊎_elim (λ e. e) (λ e. absurd (left_over (claim m) t tn l e))
          (cases_Bool (is_taken order t))
        where
          left_over : ((t : ℕ) → t < n → place t < m → is_taken order t ≡ true) → (t : ℕ) → t < n
              → place t < suc m → is_taken order t ≡ false → ⊥
          left_over ih t tn l e = stripped.stuck t (bare_from_ready order t (record {
            within = tn;
            out = λ c. false≢true (sym e ∙ taken_of order t c);
            fed = λ s j. let o = ordered s t j in let w = within s t j in
                contains_of order s (ih s w.0 (omega arith));
          }))

-- a planned order is an order
module _ (n : ℕ) (pipes : List (ℕ × ℕ)) (order : List ℕ) (is : IsPlannedOrder n pipes order) where
  pub place : ℕ → ℕ
  place s = position_or_len (λ x. x == s) order

  place_within : (t : ℕ) → Contains order t → place t < length order
  unfolding place
  place_within t (k, l, e) =
      ⊎_elim (λ h. h)
      (λ (h : length order ≤ place t). absurd (false≢true
      (sym (fails_before_first (λ x. x == t) order k t (omega arith))
      ∙ eq-eqb (get_or order k t) t e))) (cases_lt (place t) (length order))

  placed : (t : ℕ) → Contains order t → get_or order (place t) 0 ≡ t
  unfolding place
  placed t c = eqb-true (get_or order (place t) 0) t
      (passes_at_first (λ x. x == t) order 0 (place_within t c))

  at_most : (s q : ℕ) → q < length order → get_or order q 0 ≡ s → place s ≤ q
  unfolding place
  at_most s q l e =
      ⊎_elim
      (λ (h : q < place s). absurd (false≢true
      (sym (fails_before_first (λ x. x == s) order q 0 h) ∙ eq-eqb (get_or order q 0) s e)))
      (λ h. h) (cases_lt q (place s))

  pub planned_places : ((s t : ℕ) → Joins pipes s t → t < n) → (s t : ℕ) → Joins pipes s t
      → place s < place t
  planned_places within s t j =
      let c = is.all t (within s t j) in
      let l = place_within t c in
      let r = (is.each (place t) l).ready in
      let j' : Joins pipes s (get_or order (place t) 0) =
      subst (λ u. Joins pipes s u) (sym (placed t c)) j in
      let (q, ql, e) = r.fed s j' in
      let n' = length-take-le (place t) order (omega arith) in
      let q' : q < place t = omega arith in
      let f : get_or order q 0 ≡ s = get_or_default order q 0 s (omega arith)
      ∙ (sym (get_or-take (place t) order q s q') ∙ e) in
      let m = at_most s q (omega arith) f in
      omega arith

pub planned_is_order : PlannedIsOrder
planned_is_order n pipes order within is =
    (place n pipes order is, planned_places n pipes order is within)

-- and there is only one
module _ (n : ℕ) (pipes : List (ℕ × ℕ)) (order other : List ℕ) (is : IsPlannedOrder n pipes order)
    (is' : IsPlannedOrder n pipes other) where
  same_prefix : (p : ℕ) → p ≤ length order → p ≤ length other → take p order ≡ take p other
  same_prefix zero l m = refl
  same_prefix (suc p) l m =
      let ih = same_prefix p (omega arith) (omega arith) in
      let a = is.each p (omega arith) in
      let b = is'.each p (omega arith) in
      let b' = subst (λ xs. IsLowestReady n pipes xs (get_or other p 0)) (sym ih) b in
      let e : get_or order p 0 ≡ get_or other p 0 =
      ⊎_elim (λ e. e)
      (λ h. ⊎_elim (λ (l : get_or order p 0 < get_or other p 0). absurd (b'.lowest _ l a.ready))
      (λ (l : get_or other p 0 < get_or order p 0). absurd (a.lowest _ l b'.ready)) h)
      (cases_order (get_or order p 0) (get_or other p 0)) in
      let x : take (p + 1) order ≡ take (p + 1) other = take_more order p 0 (omega arith)
      ∙ (ap₂ (λ xs y. xs ++ y ∷ []) ih e ∙ sym (take_more other p 0 (omega arith))) in
      let y : p + 1 ≡ suc p = omega arith in
      subst (λ q. take q order ≡ take q other) y x

  no_longer : length order < length other → ⊥
  no_longer l =
      let p = length order in
      let e : take p other ≡ order = sym (same_prefix p (omega arith) (omega arith))
      ∙ take_all p order (omega arith) in
      let b = (is'.each p l).ready in
      b.out (subst (λ xs. Contains xs (get_or other p 0)) (sym e)
      (is.all (get_or other p 0) b.within))

pub planned_is_one : PlannedIsOne
planned_is_one n pipes order other is is' =
    let a = no_longer n pipes order other is is' in
    let b = no_longer n pipes other order is' is in
    let e : length order ≡ length other =
    ⊎_elim (λ e. e) (λ h. ⊎_elim (λ l. absurd (a l)) (λ l. absurd (b l)) h)
    (cases_order (length order) (length other)) in
    sym (take_all (length order) order (omega arith))
    ∙ (same_prefix n pipes order other is is' (length order) (omega arith) (omega arith)
    ∙ take_all (length order) other (omega arith))

-- what is asked of the tables
pub joins_within : (n : ℕ) (pipes : List (ℕ × ℕ)) → All (λ (e : ℕ × ℕ). (e.0 < n) × (e.1 < n)) pipes
    → (s t : ℕ) → Joins pipes s t → (s < n) × (t < n)
joins_within n pipes all s t (i, l, a, b) =
    let w = all i (0, 0) l in
    (subst (λ u. u < n) a w.0, subst (λ u. u < n) b w.1)

pub rows_within : (n : ℕ) (pipes : List (ℕ × ℕ)) (links : List (Vec ℕ))
    → All (λ (e : ℕ × ℕ). (e.0 < n) × (e.1 < n)) pipes
    → ((k : ℕ) → links_at links k ≡ row (flipped pipes) k) → AreWithin n links
rows_within n pipes links all rows k =
    let P : List ℕ → Type 0 = λ xs. (i : ℕ) → i < length xs → get_or xs i 0 < n in
    subst P (sym (rows k))
    (λ i l. (joins_within n pipes all (get_or (row (flipped pipes) k) i 0) k
    (unflip pipes (get_or (row (flipped pipes) k) i 0) k (in_row (flipped pipes) k i l))).0)

pub rows_mirrored : (n : ℕ) (pipes : List (ℕ × ℕ)) (links back : List (Vec ℕ))
    → ((k : ℕ) → links_at links k ≡ row (flipped pipes) k)
    → ((k : ℕ) → links_at back k ≡ row pipes k) → AreMirrored n (links_at links) (links_at back)
rows_mirrored n pipes links back rows backs t i tn =
    let P : List ℕ → Type 0 = λ xs. i < length xs → Contains (links_at back (get_or xs i 0)) t in
    subst P (sym (rows t)) (λ l.
    let s = get_or (row (flipped pipes) t) i 0 in
    subst (λ ys. Contains ys t) (sym (backs s))
    (joined_in_row pipes s t (unflip pipes s t (in_row (flipped pipes) t i l))))
