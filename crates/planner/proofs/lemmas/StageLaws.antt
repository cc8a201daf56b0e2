-- A planned order has each stage just once, and the writer of each pipe before its reader.
use Rattle.std.proofs.Common.{◌≡◌, ℕ, zero, suc, ◌+◌, ◌<◌, ◌≤◌, ◌==◌, cond, List, [], ◌∷◌, length}
use Rattle.std.proofs.Common.{take, get_or, refl, sym, ap, ◌∙◌, subst, ⊎_elim, arith}
use Rattle.std.specs.List.{Contains, count_by, position_or_len}
use Rattle.std.proofs.lemmas.Bool.{false≢true, cases_lt, cases_eq, eq-eqb, eqb-true, ne_eqb}
use Rattle.std.proofs.lemmas.List.{take_all, get_or_default, get_or-take, length-take-le}
use Rattle.std.proofs.lemmas.List.Sums.{sum_by-cons, sum_by_more, fails_before_first}
use Rattle.std.proofs.lemmas.List.Sums.{passes_at_first}
use Rattle.graphs.specs.Orders.{Joins, IsPlannedOrder}

not_there : (xs : List ℕ) (s : ℕ) → (Contains xs s → ⊥) → count_by (λ t. t == s) xs ≡ 0
not_there [] s h = refl
not_there (x ∷ xs) s h =
    let c = sum_by-cons (λ t. cond (t == s) 1 0) x xs in
    let z : ◌≡◌ {A = ℕ} (cond (x == s) 1 0) 0 =
    ap (λ b. cond b 1 0) (ne_eqb x s (λ e. h (0, omega arith, e))) in
    let ih = not_there xs s (λ r. h (later r)) in
    omega (arith, c, z, ih)
  where
    later : Contains xs s → Contains (x ∷ xs) s
    later (k, l, e) = (suc k, omega arith, e)

module _ (n : ℕ) (pipes : List (ℕ × ℕ)) (order : List ℕ) (is : IsPlannedOrder n pipes order) where
  prefix_once : (p s : ℕ) → p ≤ length order → count_by (λ t. t == s) (take p order) ≤ 1
  prefix_once zero s l = omega arith
  prefix_once (suc p) s l =
      let m = sum_by_more (λ t. cond (t == s) 1 0) order p 0 (omega arith) in
      let e : take (p + 1) order ≡ take (suc p) order =
      ap (λ q. take q order) (let f : p + 1 ≡ suc p = omega arith in f) in
      let g = ap (λ xs. count_by (λ t. t == s) xs) e in
      ⊎_elim
      (λ (h : get_or order p 0 ≡ s).
      let out = (is.each p (omega arith)).ready.out in
      let z = not_there (take p order) s
      (λ c. out (subst (λ u. Contains (take p order) u) (sym h) c)) in
      let o : ◌≡◌ {A = ℕ} (cond (get_or order p 0 == s) 1 0) 1 =
      ap (λ b. cond b 1 0) (eq-eqb (get_or order p 0) s h) in
      omega (arith, m, g, z, o))
      (λ (h : get_or order p 0 ≡ s → ⊥).
      let ih = prefix_once p s (omega arith) in
      let o : ◌≡◌ {A = ℕ} (cond (get_or order p 0 == s) 1 0) 0 =
      ap (λ b. cond b 1 0) (ne_eqb (get_or order p 0) s h) in
      omega (arith, m, g, ih, o))
      (cases_eq (get_or order p 0) s)

  -- no stage is in it twice
  pub occurs_once : (s : ℕ) → count_by (λ t. t == s) order ≤ 1
  occurs_once s = subst (λ xs. count_by (λ t. t == s) xs ≤ 1)
      (take_all (length order) order (omega arith)) (prefix_once (length order) s (omega arith))

  place_within : (t : ℕ) → Contains order t → position_or_len (λ x. x == t) order < length order
  place_within t (k, l, e) =
      ⊎_elim (λ h. h)
      (λ (h : length order ≤ position_or_len (λ x. x == t) order).
      absurd (false≢true (sym (fails_before_first (λ x. x == t) order k t (omega arith))
      ∙ eq-eqb (get_or order k t) t e)))
      (cases_lt (position_or_len (λ x. x == t) order) (length order))

  at_most : (s q : ℕ) → q < length order → get_or order q 0 ≡ s
      → position_or_len (λ x. x == s) order ≤ q
  at_most s q l e =
      ⊎_elim (λ (h : q < position_or_len (λ x. x == s) order).
      absurd (false≢true (sym (fails_before_first (λ x. x == s) order q 0 h)
      ∙ eq-eqb (get_or order q 0) s e))) (λ h. h)
      (cases_lt q (position_or_len (λ x. x == s) order))

  -- the writer of a pipe comes before its reader
  pub occurs_before : ((s t : ℕ) → Joins pipes s t → t < n) → (s t : ℕ) → Joins pipes s t
      → position_or_len (λ x. x == s) order < position_or_len (λ x. x == t) order
  occurs_before within s t j =
      let c = is.all t (within s t j) in
      let p = position_or_len (λ x. x == t) order in
      let l = place_within t c in
      let r = (is.each p l).ready in
      let at : get_or order p 0 ≡ t = eqb-true (get_or order p 0) t
      (passes_at_first (λ x. x == t) order 0 l) in
      let (q, ql, e) = r.fed s (subst (λ u. Joins pipes s u) (sym at) j) in
      let n' = length-take-le p order (omega arith) in
      let q' : q < p = omega arith in
      let f : get_or order q 0 ≡ s = get_or_default order q 0 s (omega arith)
      ∙ (sym (get_or-take p order q s q') ∙ e) in
      let m = at_most s q (omega arith) f in
      omega arith
