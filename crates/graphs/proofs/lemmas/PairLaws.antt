-- The pairs of a writer and a reader, writer by writer.
use Rattle.std.proofs.Common.{◌≡◌, ℕ, zero, suc, ◌+◌, ◌<◌, ◌++◌, ◌↔◌, List, [], ◌∷◌, map, length}
use Rattle.std.proofs.Common.{get_or, take, sym, ap, ap₂, ◌∙◌, subst, ⊎_elim, arith}
use Rattle.std.specs.List.{All, Contains, flat_map}
use Rattle.std.proofs.lemmas.List.{get_or-map, get_or_default, length-map, take_more, append-nil}
use Rattle.std.proofs.lemmas.List.Concat.{flat_map-cons}
use Rattle.std.proofs.lemmas.List.Elements.{All-contains, Contains-append_left}
use Rattle.std.proofs.lemmas.List.Elements.{Contains-append_right, Contains-append_cases}
use Rattle.std.proofs.lemmas.Grind.{flat_map-append}
use Rattle.graphs.specs.Orders.{Joins}
use Rattle.graphs.specs.inner.Rows.{row}
use Rattle.graphs.specs.inner.Meetings.{Meet}
use Rattle.graphs.proofs.OrderLaws.{in_row, joined_in_row}

-- the pairs of one writer
abbrev pub pairs_with : List (ℕ × ℕ) → ℕ × ℕ → List (ℕ × ℕ)
pairs_with readers w = map (λ t. (w.1, t)) (row readers w.0)

-- the pairs of all
abbrev pub pairs_of : List (ℕ × ℕ) → List (ℕ × ℕ) → List (ℕ × ℕ)
pairs_of writers readers = flat_map (pairs_with readers) writers

-- two are joined if their pair is in the list
contains_joined : (pipes : List (ℕ × ℕ)) (s t : ℕ) → Joins pipes s t → Contains pipes (s, t)
contains_joined pipes s t (i, l, a, b) = (
  i,
  l,
  get_or_default pipes i (s, t) (0, 0) l
      ∙ ap₂ (λ x y. (x, y)) a b,
)

joined_contains : (pipes : List (ℕ × ℕ)) (s t : ℕ) → Contains pipes (s, t) → Joins pipes s t
joined_contains pipes s t (i, l, e) =
    let f = get_or_default pipes i (0, 0) (s, t) l ∙ e in
    (i, l, ap (λ (p : ℕ × ℕ). p.0) f, ap (λ (p : ℕ × ℕ). p.1) f)

-- the pairs of one writer are with those in its row
of_one : (readers : List (ℕ × ℕ)) (w : ℕ × ℕ) (s t : ℕ) → Contains (pairs_with readers w) (s, t)
    → (w.1 ≡ s) × Contains readers (w.0, t)
of_one readers w s t (i, l, e) =
    let f : ℕ → ℕ × ℕ = λ u. (w.1, u) in
    let n = length-map (row readers w.0) f in
    let l' : i < length (row readers w.0) = omega arith in
    let g = sym (get_or-map f (row readers w.0) i 0 (s, t) l') ∙ e in
    let j : Joins readers w.0 t = subst (λ u. Joins readers w.0 u) (ap (λ (p : ℕ × ℕ). p.1) g)
    (in_row readers w.0 i l') in
    (ap (λ (p : ℕ × ℕ). p.0) g, contains_joined readers w.0 t j)

one_of : (readers : List (ℕ × ℕ)) (w : ℕ × ℕ) (t : ℕ) → Contains readers (w.0, t)
    → Contains (pairs_with readers w) (w.1, t)
one_of readers w t c =
    let f : ℕ → ℕ × ℕ = λ u. (w.1, u) in
    let (i, l, e) = joined_in_row readers w.0 t (joined_contains readers w.0 t c) in
    let n = length-map (row readers w.0) f in
    (i, omega (arith, n, l), get_or-map f (row readers w.0) i t (w.1, t) l ∙ ap f e)

meet_later : (w : ℕ × ℕ) (writers readers : List (ℕ × ℕ)) (s t : ℕ) → Meet writers readers s t
    → Meet (w ∷ writers) readers s t
meet_later w writers readers s t (c, (i, l, e), r) = (c, (suc i, omega arith, e), r)

contained_meet : (writers readers : List (ℕ × ℕ)) (s t : ℕ)
    → Contains (pairs_of writers readers) (s, t) → Meet writers readers s t
contained_meet [] readers s t (i, l, e) = absurd (omega arith)
contained_meet (w ∷ writers) readers s t h = ⊎_elim
    (λ (c : Contains (pairs_with readers w) (s, t)). let (a, r) = of_one readers w s t c in
    (w.0, (0, omega arith, ap (λ u. (w.0, u)) a), r))
    (λ (c : Contains (pairs_of writers readers) (s, t)). meet_later w writers readers s t
    (contained_meet writers readers s t c))
    (Contains-append_cases (pairs_with readers w) (pairs_of writers readers) (s, t)
    (subst (λ xs. Contains xs (s, t)) (flat_map-cons (pairs_with readers) w writers) h))

meet_contained : (writers readers : List (ℕ × ℕ)) (s t c i : ℕ) → i < length writers
    → get_or writers i (c, s) ≡ (c, s) → Contains readers (c, t)
    → Contains (pairs_of writers readers) (s, t)
meet_contained [] readers s t c i l e r = absurd (omega arith)
meet_contained (w ∷ writers) readers s t c zero l e r =
    let a = one_of readers (c, s) t r in
    let b = subst (λ v. Contains (pairs_with readers v) (s, t)) (sym e) a in
    subst (λ xs. Contains xs (s, t)) (sym (flat_map-cons (pairs_with readers) w writers))
    (Contains-append_left (pairs_with readers w) (pairs_of writers readers) (s, t) b)
meet_contained (w ∷ writers) readers s t c (suc i) l e r =
    let b = meet_contained writers readers s t c i (omega arith) e r in
    subst (λ xs. Contains xs (s, t)) (sym (flat_map-cons (pairs_with readers) w writers))
    (Contains-append_right (pairs_with readers w) (pairs_of writers readers) (s, t) b)

pub joins_meet : (writers readers : List (ℕ × ℕ)) (s t : ℕ)
    → Joins (pairs_of writers readers) s t ↔ Meet writers readers s t
joins_meet writers readers s t = (
  λ j. contained_meet writers readers s t (contains_joined (pairs_of writers readers) s t j),
  λ (c, (i, l, e), r). joined_contains (pairs_of writers readers) s t
      (meet_contained writers readers s t c i l e r),
)

-- the ends of the pairs are ends of writers and of readers
pub pairs_within : (writers readers : List (ℕ × ℕ)) (count : ℕ)
    → All (λ (e : ℕ × ℕ). e.1 < count) writers → All (λ (e : ℕ × ℕ). e.1 < count) readers
    → All (λ (e : ℕ × ℕ). (e.0 < count) × (e.1 < count)) (pairs_of writers readers)
pairs_within writers readers count ws rs k d l =
    let p = get_or (pairs_of writers readers) k d in
    let (c, w, r) = contained_meet writers readers p.0 p.1
    (k, l, get_or_default (pairs_of writers readers) k p d l) in (
      All-contains (λ (e : ℕ × ℕ). e.1 < count) writers (c, p.0) ws w,
      All-contains (λ (e : ℕ × ℕ). e.1 < count) readers (c, p.1) rs r,
    )

-- one more writer
pub pairs_more : (writers readers : List (ℕ × ℕ)) (i : ℕ) → i < length writers
    → pairs_of (take (i + 1) writers) readers ≡ pairs_of (take i writers) readers
    ++ pairs_with readers (get_or writers i (0, 0))
pairs_more writers readers i l =
    let w = get_or writers i (0, 0) in
    ap (λ ws. pairs_of ws readers) (take_more writers i (0, 0) l)
    ∙ (flat_map-append (pairs_with readers) (take i writers) (w ∷ [])
    ∙ ap (λ xs. pairs_of (take i writers) readers ++ xs) (flat_map-cons (pairs_with readers) w []
    ∙ append-nil (pairs_with readers w)))
