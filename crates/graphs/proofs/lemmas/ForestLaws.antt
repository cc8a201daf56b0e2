-- A forest is what can be taken apart, each time a node with at most one pipe to those that are
-- still there.
use Rattle.std.proofs.Common.{◌≡◌, ◌≢◌, ℕ, zero, suc, ◌+◌, ◌-◌, ◌<◌, ◌≤◌, ◌==◌, ◌&&◌, ◌⊎◌, Bool}
use Rattle.std.proofs.Common.{true, false, not, cond, List, [], ◌∷◌, ◌++◌, length, map, get_or}
use Rattle.std.proofs.Common.{take, refl, sym, ap, ◌∙◌, subst, inl, inr, ⊎_elim, arith}
use Rattle.std.specs.Global.{Vec}
use Rattle.std.specs.List.{All, Contains, count_by, filter, position_or_len}
use Rattle.std.proofs.lemmas.Bool.{false≢true, cases_Bool, cases_lt, cases_eq, cases_order}
use Rattle.std.proofs.lemmas.Bool.{not-true, eq-eqb, eqb-true, and_parts, and_from}
use Rattle.std.proofs.lemmas.List.{get_or-map, length-map, length-take-le, get_or-take}
use Rattle.std.proofs.lemmas.List.{get_or_default, get_or_append_left, get_or-append-add}
use Rattle.std.proofs.lemmas.List.{length-append}
use Rattle.std.proofs.lemmas.List.Sums.{sum_by-cons, fails_before_first, passes_at_first}
use Rattle.std.proofs.lemmas.List.Sums.{get_or-le-sum_by}
use Rattle.std.proofs.lemmas.List.Elements.{All-append, All-map, All-weaker}
use Rattle.graphs.specs.inner.Rows.{links_at}
use Rattle.graphs.specs.inner.StripSteps.{AreWithin, is_taken, left, IsStripped, AreCounted}
use Rattle.graphs.specs.inner.StripSteps.{AreMirrored}
use Rattle.graphs.specs.inner.Rows.{row, flipped}
use Rattle.graphs.specs.Orders.{Joins}
use Rattle.graphs.specs.Graph.{Graph, writer, reader, IsPipe, Writes, Reads, LeadsLater, IsForest}
use Rattle.graphs.proofs.OrderLaws.{contains_of, in_row, joined_in_row}

-- counts of pairs
abbrev pub counted : (ℕ × ℕ → Bool) → List (ℕ × ℕ) → ℕ
counted f xs = count_by f xs

counted_cons : (f : ℕ × ℕ → Bool) (x : ℕ × ℕ) (xs : List (ℕ × ℕ))
    → counted f (x ∷ xs) ≡ cond (f x) 1 0 + counted f xs
counted_cons f x xs = sum_by-cons (λ y. cond (f y) 1 0) x xs

one_at : (f : ℕ × ℕ → Bool) (x : ℕ × ℕ) → f x ≡ true → ◌≡◌ {A = ℕ} (cond (f x) 1 0) 1
one_at f x e = ap (λ b. cond b 1 0) e

none_at : (f : ℕ × ℕ → Bool) (x : ℕ × ℕ) → f x ≡ false → ◌≡◌ {A = ℕ} (cond (f x) 1 0) 0
none_at f x e = ap (λ b. cond b 1 0) e

some_counted : (f : ℕ × ℕ → Bool) (xs : List (ℕ × ℕ)) (i : ℕ) → i < length xs
    → f (get_or xs i (0, 0)) ≡ true → 1 ≤ counted f xs
some_counted f xs i l e =
    let g = get_or-le-sum_by (λ (y : ℕ × ℕ). cond (f y) 1 0) xs i (0, 0) l in
    let o = one_at f (get_or xs i (0, 0)) e in
    omega (arith, g, o)

pub two_counted : (f : ℕ × ℕ → Bool) (xs : List (ℕ × ℕ)) → counted f xs ≤ 1 → (i j : ℕ)
    → i < length xs → j < length xs → f (get_or xs i (0, 0)) ≡ true → f (get_or xs j (0, 0)) ≡ true
    → i ≡ j
two_counted f [] h i j l m a b = absurd (omega arith)
two_counted f (x ∷ xs) h zero zero l m a b = refl
two_counted f (x ∷ xs) h zero (suc j) l m a b =
    let c = counted_cons f x xs in
    let o = one_at f x a in
    let s = some_counted f xs j (omega arith) b in
    absurd (omega (arith, c, o, s, h))
two_counted f (x ∷ xs) h (suc i) zero l m a b =
    let c = counted_cons f x xs in
    let o = one_at f x b in
    let s = some_counted f xs i (omega arith) a in
    absurd (omega (arith, c, o, s, h))
two_counted f (x ∷ xs) h (suc i) (suc j) l m a b =
    let c = counted_cons f x xs in
    ap suc (two_counted f xs (omega (arith, c, h)) i j (omega arith) (omega arith) a b)

one_from : (f : ℕ × ℕ → Bool) (xs : List (ℕ × ℕ)) → 1 ≤ counted f xs
    → (i : ℕ) × (i < length xs) × (f (get_or xs i (0, 0)) ≡ true)
one_from f [] h = absurd (omega arith)
one_from f (x ∷ xs) h = by_case (f x) refl (one_from f xs)
  where
    by_case : (b : Bool) → f x ≡ b
        → (1 ≤ counted f xs → (i : ℕ) × (i < length xs) × (f (get_or xs i (0, 0)) ≡ true))
        → (i : ℕ) × (i < length (x ∷ xs)) × (f (get_or (x ∷ xs) i (0, 0)) ≡ true)
    by_case true e ih = (0, omega arith, e)
    by_case false e ih =
        let c = counted_cons f x xs in
        let o = none_at f x e in
        let (i, l, a) = ih (omega (arith, c, o, h)) in
        (suc i, omega arith, a)

pub two_from : (f : ℕ × ℕ → Bool) (xs : List (ℕ × ℕ)) → 2 ≤ counted f xs
    → (i : ℕ) × (j : ℕ) × (i < j) × (j < length xs) × (f (get_or xs i (0, 0)) ≡ true)
    × (f (get_or xs j (0, 0)) ≡ true)
two_from f [] h = absurd (omega arith)
two_from f (x ∷ xs) h = by_case (f x) refl (two_from f xs)
  where
    by_case : (b : Bool) → f x ≡ b
        → (2 ≤ counted f xs → (i : ℕ) × (j : ℕ) × (i < j) × (j < length xs)
        × (f (get_or xs i (0, 0)) ≡ true) × (f (get_or xs j (0, 0)) ≡ true))
        → (i : ℕ) × (j : ℕ) × (i < j) × (j < length (x ∷ xs))
        × (f (get_or (x ∷ xs) i (0, 0)) ≡ true) × (f (get_or (x ∷ xs) j (0, 0)) ≡ true)
    by_case true e ih =
        let c = counted_cons f x xs in
        let o = one_at f x e in
        let (j, l, a) = one_from f xs (omega (arith, c, o, h)) in
        (0, suc j, omega arith, omega arith, e, a)
    by_case false e ih =
        let c = counted_cons f x xs in
        let o = none_at f x e in
        let (i, j, lt, l, a, b) = ih (omega (arith, c, o, h)) in
        (suc i, suc j, omega arith, omega arith, a, b)

-- a count over a row is a count over the pairs
pub count_row : (f : ℕ → Bool) (k : ℕ) (ends : List (ℕ × ℕ))
    → count_by f (row ends k) ≡ counted (λ e. (e.0 == k) && f e.1) ends
count_row f k [] = refl
count_row f k (x ∷ ends) = by_case (x.0 == k) refl (count_row f k ends)
    ∙ sym (counted_cons (λ e. (e.0 == k) && f e.1) x ends)
  where
    by_case : (b : Bool) → (x.0 == k) ≡ b
        → count_by f (row ends k) ≡ counted (λ e. (e.0 == k) && f e.1) ends
        → count_by f
        (map (λ (p : ℕ × ℕ). p.1) (cond b (x ∷ filter (λ p. p.0 == k) ends)
        (filter (λ p. p.0 == k) ends))) ≡ cond ((x.0 == k) && f x.1) 1 0 + counted
        (λ e. (e.0 == k) && f e.1) ends
    by_case true e ih =
        let c = sum_by-cons (λ y. cond (f y) 1 0) x.1 (row ends k) in
        let d : ◌≡◌ {A = ℕ} (cond ((x.0 == k) && f x.1) 1 0) (cond (f x.1) 1 0) =
        ap (λ b. cond (b && f x.1) 1 0) e in
        omega (arith, c, d, ih)
    by_case false e ih =
        let d : ◌≡◌ {A = ℕ} (cond ((x.0 == k) && f x.1) 1 0) 0 =
        ap (λ b. cond (b && f x.1) 1 0) e in
        omega (arith, d, ih)

-- the place of a node in an order
module _ (order : List ℕ) where
  pub spot : ℕ → ℕ
  spot s = position_or_len (λ x. x == s) order

  pub spot_within : (t : ℕ) → Contains order t → spot t < length order
  unfolding spot
  spot_within t (k, l, e) =
      ⊎_elim (λ h. h)
      (λ (h : length order ≤ spot t). absurd (false≢true
      (sym (fails_before_first (λ x. x == t) order k t (omega arith))
      ∙ eq-eqb (get_or order k t) t e))) (cases_lt (spot t) (length order))

  pub at_spot : (t : ℕ) → Contains order t → get_or order (spot t) 0 ≡ t
  unfolding spot
  at_spot t c = eqb-true (get_or order (spot t) 0) t
      (passes_at_first (λ x. x == t) order 0 (spot_within t c))

  pub spot_first : (s q : ℕ) → q < length order → get_or order q 0 ≡ s → spot s ≤ q
  unfolding spot
  spot_first s q l e =
      ⊎_elim
      (λ (h : q < spot s). absurd (false≢true
      (sym (fails_before_first (λ x. x == s) order q 0 h) ∙ eq-eqb (get_or order q 0) s e)))
      (λ h. h) (cases_lt q (spot s))

  -- what comes later was not taken before
  pub later_is_out : (k s : ℕ) → k ≤ length order → k ≤ spot s → is_taken (take k order) s ≡ false
  later_is_out k s kl h =
      ⊎_elim
      (λ (e : is_taken (take k order) s ≡ true). absurd (by_case (contains_of (take k order) s e)))
      (λ e. e) (cases_Bool (is_taken (take k order) s))
    where
      by_case : Contains (take k order) s → ⊥
      by_case (q, l, e) =
          let n = length-take-le k order kl in
          let q' : q < k = omega arith in
          let f : get_or order q 0 ≡ s = get_or_default order q 0 s (omega arith)
          ∙ (sym (get_or-take k order q s q') ∙ e) in
          let m = spot_first s q (omega arith) f in
          omega arith

abbrev pub both : List (ℕ × ℕ) → List (ℕ × ℕ)
both pipes = pipes ++ flipped pipes

both_length : (pipes : List (ℕ × ℕ)) → length (both pipes) ≡ length pipes + length pipes
both_length pipes =
    let f : ℕ × ℕ → ℕ × ℕ = λ e. (e.1, e.0) in
    let a = length-append pipes (flipped pipes) in
    let b = length-map pipes f in
    omega (arith, a, b)

both_first : (pipes : List (ℕ × ℕ)) (p : ℕ) → p < length pipes
    → get_or (both pipes) p (0, 0) ≡ get_or pipes p (0, 0)
both_first pipes p l = get_or_append_left pipes (flipped pipes) (0, 0) p l

both_second : (pipes : List (ℕ × ℕ)) (p : ℕ) → p < length pipes
    → get_or (both pipes) (length pipes + p) (0, 0)
    ≡ ((get_or pipes p (0, 0)).1, (get_or pipes p (0, 0)).0)
both_second pipes p l = get_or-append-add pipes (flipped pipes) p (0, 0)
    ∙ get_or-map (λ (e : ℕ × ℕ). (e.1, e.0)) pipes p (0, 0) (0, 0) l

-- a pair that leads from k to a node that is not taken
abbrev pub leads : List ℕ → ℕ → ℕ × ℕ → Bool
leads taken k e = (e.0 == k) && not (is_taken taken e.1)

leads_by : (taken : List ℕ) (k : ℕ) (e : ℕ × ℕ) → e.0 ≡ k → is_taken taken e.1 ≡ false
    → leads taken k e ≡ true
leads_by taken k e h out = and_from (e.0 == k) (not (is_taken taken e.1)) (eq-eqb e.0 k h)
    (ap not out)

of_leads : (taken : List ℕ) (k : ℕ) (e : ℕ × ℕ) → leads taken k e ≡ true
    → (e.0 ≡ k) × (is_taken taken e.1 ≡ false)
of_leads taken k e h =
    let (a, b) = and_parts (e.0 == k) (not (is_taken taken e.1)) h in
    (eqb-true e.0 k a, not-true (is_taken taken e.1) b)

module _ (g : Graph) (up : (p : ℕ) → IsPipe g p → (writer g p < reader g p)
    × (reader g p < length g.nodes)) (links : ℕ → List ℕ) (rows : (t : ℕ)
    → links t ≡ row (both g.pipes) t) (order : List ℕ)
    (stripped : IsStripped 1 (length g.nodes) links order) where
  few_pairs : (taken : List ℕ) (k : ℕ) → left taken (links k)
      ≡ counted (leads taken k) (both g.pipes)
  few_pairs taken k = ap (λ xs. left taken xs) (rows k)
      ∙ count_row (λ u. not (is_taken taken u)) k (both g.pipes)

  -- either end of a pipe is a node
  end_within : (place : ℕ → ℕ) (k p : ℕ) → LeadsLater g place k p → k < length g.nodes
  end_within place k p h = ⊎_elim
      (λ (w : Writes g k p × (place k < place (reader g p))). let u = up p w.0.0 in let e = w.0.1 in
      omega (arith, u, e))
      (λ (r : Reads g k p × (place k < place (writer g p))). let u = up p r.0.0 in let e = r.0.1 in
      omega (arith, u, e)) h

  module _ (all : (t : ℕ) → t < length g.nodes → is_taken order t ≡ true)
      (len : length order ≡ length g.nodes) where
    -- the place of a later pipe among the pairs
    later_pair : (k p : ℕ) → LeadsLater g (spot order) k p
        → (i : ℕ) × (i < length (both g.pipes))
        × (leads (take (spot order k) order) k (get_or (both g.pipes) i (0, 0)) ≡ true)
        × (p < length g.pipes) × ((i ≡ p) ⊎ (i ≡ length g.pipes + p))
    later_pair k p h = ⊎_elim
        (λ (w : Writes g k p × (spot order k < spot order (reader g p))).
        let taken = take (spot order k) order in
        let l = both_length g.pipes in
        let is = w.0.0 in
        let lt = w.1 in
        let out = later_is_out order (spot order k) (reader g p) (omega (arith, here))
        (omega (arith, lt)) in (
          p,
          omega (arith, l, is),
          ap (λ e. leads taken k e) (both_first g.pipes p is)
              ∙ leads_by taken k (get_or g.pipes p (0, 0)) w.0.1 out,
          is,
          inl refl,
        ))
        (λ (r : Reads g k p × (spot order k < spot order (writer g p))).
        let taken = take (spot order k) order in
        let l = both_length g.pipes in
        let is = r.0.0 in
        let lt = r.1 in
        let out = later_is_out order (spot order k) (writer g p) (omega (arith, here))
        (omega (arith, lt)) in (
          length g.pipes + p,
          omega (arith, l, is),
          ap (λ e. leads taken k e)
              (both_second g.pipes p is)
              ∙ leads_by taken k ((get_or g.pipes p (0, 0)).1, (get_or g.pipes p (0, 0)).0) r.0.1 out,
          is,
          inr refl,
        )) h
      where
        here : spot order k < length order
        here = spot_within order k (contains_of order k (all k (end_within (spot order) k p h)))

    one_later : (k p q : ℕ) → LeadsLater g (spot order) k p → LeadsLater g (spot order) k q → p ≡ q
    one_later k p q a b =
        let n = end_within (spot order) k p a in
        let c = contains_of order k (all k n) in
        let w = spot_within order k c in
        let x = (stripped.each (spot order k) w).bare in
        let taken = take (spot order k) order in
        let few : left taken (links k) ≤ 1 =
        subst (λ u. left taken (links u) ≤ 1) (at_spot order k c) x.few in
        let few' : counted (leads taken k) (both g.pipes) ≤ 1 =
        subst (λ m. m ≤ 1) (few_pairs taken k) few in
        let (i, il, ie, ip, iw) = later_pair k p a in
        let (j, jl, je, jp, jw) = later_pair k q b in
        let same = two_counted (leads taken k) (both g.pipes) few' i j il jl ie je in
        ⊎_elim
        (λ (e : i ≡ p). ⊎_elim (λ (f : j ≡ q). omega arith)
        (λ (f : j ≡ length g.pipes + q). absurd (omega arith)) jw)
        (λ (e : i ≡ length g.pipes + p). ⊎_elim (λ (f : j ≡ q). absurd (omega arith))
        (λ (f : j ≡ length g.pipes + q). omega arith) jw) iw

    pub forest : IsForest g
    forest = record {
      place = spot order;
      within = λ k n. let w = spot_within order k (contains_of order k (all k n)) in omega arith;
      apart = λ j k n m e. sym (at_spot order j (contains_of order j (all j n)))
          ∙ (ap (λ q. get_or order q 0) e ∙ at_spot order k (contains_of order k (all k m)));
      one_later = one_later;
    }

  module _ (f : IsForest g) where
    -- a pair that leads from t to a node that is not taken is a pipe to a later one
    pair_later : (t : ℕ) → t < length g.nodes
        → ((u : ℕ) → u < length g.nodes → f.place u < f.place t → is_taken order u ≡ true) → (i : ℕ)
        → i < length (both g.pipes) → leads order t (get_or (both g.pipes) i (0, 0)) ≡ true
        → (p : ℕ) × LeadsLater g f.place t p
        × (((i ≡ p) × Writes g t p) ⊎ ((i ≡ length g.pipes + p) × Reads g t p))
    pair_later t tn earlier i il e = ⊎_elim first second (cases_lt i (length g.pipes))
      where
        later : (u : ℕ) → u < length g.nodes → u ≢ t → is_taken order u ≡ false
            → f.place t < f.place u
        later u un ne out = ⊎_elim
            (λ (h : f.place u ≡ f.place t). absurd (ne (f.apart u t un tn h)))
            (λ h. ⊎_elim
            (λ (l : f.place u < f.place t). absurd (false≢true (sym out ∙ earlier u un l)))
            (λ (l : f.place t < f.place u). l) h)
            (cases_order (f.place u) (f.place t))

        first : i < length g.pipes → (p : ℕ) × LeadsLater g f.place t p
            × (((i ≡ p) × Writes g t p) ⊎ ((i ≡ length g.pipes + p) × Reads g t p))
        first l =
            let (a, b) = of_leads order t (get_or g.pipes i (0, 0))
            (ap (λ x. leads order t x) (sym (both_first g.pipes i l)) ∙ e) in
            let u = up i l in (
              i,
              inl ((l, a), later (reader g i) u.1 (λ h. omega (arith, a, u, h)) b),
              inl (refl, (l, a)),
            )

        second : length g.pipes ≤ i → (p : ℕ) × LeadsLater g f.place t p
            × (((i ≡ p) × Writes g t p) ⊎ ((i ≡ length g.pipes + p) × Reads g t p))
        second h =
            let m = length g.pipes in
            let p = i - m in
            let len = both_length g.pipes in
            let l : p < m = omega (arith, len) in
            let ie : i ≡ m + p = omega arith in
            let (a, b) = of_leads order t ((get_or g.pipes p (0, 0)).1, (get_or g.pipes p (0, 0)).0)
            (ap (λ x. leads order t x) (sym (both_second g.pipes p l))
            ∙ (ap (λ j. leads order t (get_or (both g.pipes) j (0, 0))) (sym ie) ∙ e)) in
            let u = up p l in (
              p,
              inr ((l, a), later (writer g p) (omega (arith, u)) (λ h. omega (arith, a, u, h)) b),
              inr (ie, (l, a)),
            )

    left_over : (t : ℕ) → t < length g.nodes
        → ((u : ℕ) → u < length g.nodes → f.place u < f.place t → is_taken order u ≡ true)
        → is_taken order t ≡ false → ⊥
    left_over t tn earlier out = ⊎_elim
        (λ (h : left order (links t) ≤ 1). stripped.stuck t
        (record { within = tn; there = out; few = h }))
        (λ (h : 1 < left order (links t)).
        let c : 2 ≤ counted (leads order t) (both g.pipes) =
        subst (λ m. 2 ≤ m) (few_pairs order t) (omega (arith, h)) in
        let (i, j, lt, jl, a, b) = two_from (leads order t) (both g.pipes) c in
        let (p, lp, wp) = pair_later t tn earlier i (omega arith) a in
        let (q, lq, wq) = pair_later t tn earlier j jl b in
        let same = f.one_later t p q lp lq in
        ⊎_elim
        (λ (x : (i ≡ p) × Writes g t p). ⊎_elim
        (λ (y : (j ≡ q) × Writes g t q). omega (arith, x.0, y.0))
        (λ (y : (j ≡ length g.pipes + q) × Reads g t q). let w = x.1.1 in
        let r : reader g p ≡ t = ap (λ z. reader g z) same ∙ y.1.1 in
        let u = up p x.1.0 in
        omega (arith, w, r, u)) wq)
        (λ (x : (i ≡ length g.pipes + p) × Reads g t p). ⊎_elim
        (λ (y : (j ≡ q) × Writes g t q). let l = y.1.0 in omega (arith, x.0, y.0, l))
        (λ (y : (j ≡ length g.pipes + q) × Reads g t q). omega (arith, x.0, y.0)) wq) wp)
        (small (left order (links t)))
      where
        small : (m : ℕ) → (m ≤ 1) ⊎ (1 < m)
        small m = ⊎_elim (λ h. inr h) (λ h. inl h) (cases_lt 1 m)

    all_taken : (m t : ℕ) → t < length g.nodes → f.place t < m → is_taken order t ≡ true
    all_taken zero t tn l = absurd (omega arith)
    all_taken (suc m) t tn l =
        ⊎_elim (λ e. e) (λ e. absurd (left_over t tn (λ u un lt. all_taken m u un (omega arith)) e))
        (cases_Bool (is_taken order t))

    pub no_forest : (t : ℕ) → t < length g.nodes → is_taken order t ≡ false → ⊥
    no_forest t tn out = false≢true (sym out ∙ all_taken (suc (f.place t)) t tn (omega arith))

-- what is asked of the table
pub both_within : (n : ℕ) (pipes : List (ℕ × ℕ))
    → All (λ (e : ℕ × ℕ). (e.0 < e.1) × (e.1 < n)) pipes → All (λ (e : ℕ × ℕ). e.0 < n) (both pipes)
both_within n pipes all =
    let P : ℕ × ℕ → Type 0 = λ e. e.0 < n in
    let f : ℕ × ℕ → ℕ × ℕ = λ e. (e.1, e.0) in
    let R : ℕ × ℕ → Type 0 = λ e. (e.0 < e.1) × (e.1 < n) in
    let Q : ℕ × ℕ → Type 0 = λ e. e.1 < n in
    All-append P pipes (flipped pipes)
    (All-weaker R P (λ e h. let a = h.0 in let b = h.1 in omega arith) pipes all)
    (All-map P f pipes (All-weaker R Q (λ e h. h.1) pipes all))

both_back : (pipes : List (ℕ × ℕ)) (s t : ℕ) → Joins (both pipes) t s → Joins (both pipes) s t
both_back pipes s t (i, l, a, b) = ⊎_elim
    (λ (h : i < length pipes).
    let x = both_first pipes i h in
    let y = both_second pipes i h in
    let len = both_length pipes in (
      length pipes + i,
      omega (arith, len),
      ap (λ (e : ℕ × ℕ). e.0) y
          ∙ (ap (λ (e : ℕ × ℕ). e.1) (sym x) ∙ b),
      ap (λ (e : ℕ × ℕ). e.1) y
          ∙ (ap (λ (e : ℕ × ℕ). e.0) (sym x) ∙ a),
    ))
    (λ (h : length pipes ≤ i).
    let len = both_length pipes in
    let p = i - length pipes in
    let lt : p < length pipes = omega (arith, len) in
    let ie : length pipes + p ≡ i = omega arith in
    let x = both_first pipes p lt in
    let y = sym (both_second pipes p lt) ∙ ap (λ j. get_or (both pipes) j (0, 0)) ie in (
      p,
      omega (arith, len),
      ap (λ (e : ℕ × ℕ). e.0) x
          ∙ (ap (λ (e : ℕ × ℕ). e.1) y ∙ b),
      ap (λ (e : ℕ × ℕ). e.1) x
          ∙ (ap (λ (e : ℕ × ℕ). e.0) y ∙ a),
    ))
    (cases_lt i (length pipes))

module _ (n : ℕ) (pipes : List (ℕ × ℕ)) (links : List (Vec ℕ)) (rows : (k : ℕ)
    → links_at links k ≡ row (both pipes) k) where
  pub both_rows_within : All (λ (e : ℕ × ℕ). e.0 < n) (both pipes) → AreWithin n links
  both_rows_within all k =
      let P : List ℕ → Type 0 = λ xs. (i : ℕ) → i < length xs → get_or xs i 0 < n in
      subst P (sym (rows k)) (λ i l.
      let s = get_or (row (both pipes) k) i 0 in
      let (j, jl, a, b) = both_back pipes s k (in_row (both pipes) k i l) in
      subst (λ u. u < n) a (all j (0, 0) jl))

  pub both_rows_mirrored : AreMirrored n (links_at links) (links_at links)
  both_rows_mirrored t i tn =
      let P : List ℕ → Type 0 = λ xs. i < length xs → Contains (links_at links (get_or xs i 0)) t in
      subst P (sym (rows t)) (λ l.
      let s = get_or (row (both pipes) t) i 0 in
      subst (λ ys. Contains ys t) (sym (rows s))
      (joined_in_row (both pipes) s t (both_back pipes s t (in_row (both pipes) t i l))))

pub forest_decided : (g : Graph) (n : ℕ) (pipes : List (ℕ × ℕ)) (links : ℕ
    → List ℕ) (order : List ℕ) → length g.nodes ≡ n → g.pipes ≡ pipes
    → All (λ (e : ℕ × ℕ). (e.0 < e.1) × (e.1 < n)) pipes → ((t : ℕ) → links t ≡ row (both pipes) t)
    → IsStripped 1 n links order → AreCounted n order
    → ((length order ≡ n) → IsForest g) × (IsForest g → length order ≡ n)
forest_decided g n pipes links order hn hp all rows stripped counts =
    let up : (p : ℕ) → IsPipe g p → (writer g p < reader g p) × (reader g p < length g.nodes) =
    λ p is.
    let is' : p < length pipes = subst (λ (xs : List (ℕ × ℕ)). p < length xs) hp is in
    let a = all p (0, 0) is' in
    let b = subst (λ (xs : List (ℕ × ℕ)). ((get_or xs p (0, 0)).0 < (get_or xs p (0, 0)).1)
    × ((get_or xs p (0, 0)).1 < n)) (sym hp) a in
    (b.0, subst (λ m. reader g p < m) (sym hn) b.1) in
    let rows' : (t : ℕ) → links t ≡ row (both g.pipes) t = λ t. rows t
    ∙ ap (λ xs. row (both xs) t) (sym hp) in
    let s = subst (λ m. IsStripped 1 m links order) (sym hn) stripped in (
      λ e. forest g up links rows' order s (λ t tn. counts.all e t (omega (arith, hn, tn))) (e
          ∙ sym hn),
      λ f. ⊎_elim (λ e. e) (λ ne. let (t, tn, out) = counts.some ne in
          absurd (no_forest g up links rows' order s f t (omega (arith, hn, tn)) out))
          (cases_eq (length order) n),
    )
