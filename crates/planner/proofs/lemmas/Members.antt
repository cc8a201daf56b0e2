-- The origins of the ends of a script.
use Rattle.std.proofs.Common.{◌≡◌, ℕ, zero, suc, ◌+◌, ◌<◌, List, [], ◌∷◌, length, map, get_or, refl}
use Rattle.std.proofs.Common.{sym, ap, ap₂, ◌∙◌, subst, arith}
use Rattle.std.specs.List.{Contains, flat_map, enumerate_from}
use Rattle.std.proofs.lemmas.List.{get_or_default, length-map, get_or-map}
use Rattle.std.proofs.lemmas.List.Elements.{All-contains, All-contains_itself, Contains-get_or}
use Rattle.std.proofs.lemmas.List.Elements.{Contains-append_left, Contains-append_right}
use Rattle.std.proofs.lemmas.List.FromFn.{length-enumerate_from, get_or-enumerate_from}
use Rattle.planner.specs.declared.place.Place.{Place}
use Rattle.planner.specs.declared.place.Place.TheVariants as place
use Rattle.planner.specs.declared.place.End.{End}
use Rattle.planner.specs.Places.{Stage}
use Rattle.planner.specs.Ends.{end_at, ends_at, all_ends}
use Rattle.planner.specs.Laws.{AreInTurn}
use Rattle.planner.proofs.lemmas.SortLaws.{All-flat_map}
use Rattle.planner.proofs.lemmas.TurnLaws.{at_index}

-- what is in a list that is made of lists is in one of them
pub origin : {A B : Type 0} (h : A → List B) (xs : List A) (y : B) → Contains (flat_map h xs) y
    → (x : A) × Contains xs x × Contains (h x) y
origin {A} {B} h xs y c =
    let P : B → Type 0 = λ z. (x : A) × Contains xs x × Contains (h x) z in
    All-contains P (flat_map h xs) y
    (All-flat_map P (Contains xs) h xs (λ x xc k d l. (x, xc, Contains-get_or (h x) k d l))
    (All-contains_itself xs)) c

-- and what is in one of the lists is in all of them joined
pub in_flat_map : {A B : Type 0} (h : A → List B) (xs : List A) (x : A) (y : B) → Contains xs x
    → Contains (h x) y → Contains (flat_map h xs) y
in_flat_map h [] x y (k, l, e) c = absurd (omega arith)
in_flat_map h (z ∷ xs) x y (zero, l, e) c =
    Contains-append_left (h z) (flat_map h xs) y (subst (λ w. Contains (h w) y) (sym e) c)
in_flat_map h (z ∷ xs) x y (suc k, l, e) c =
    Contains-append_right (h z) (flat_map h xs) y (in_flat_map h xs x y (k, omega arith, e) c)

-- what is made of a member is among what is made of all, and only that is
pub in_map : {A B : Type 0} (f : A → B) (xs : List A) (x : A) → Contains xs x
    → Contains (map f xs) (f x)
in_map f xs x (k, l, e) = (
  k,
  let n = length-map xs f in
      omega (arith, n),
  get_or-map f xs k x (f x) l ∙ ap f e,
)

pub of_map : {A B : Type 0} (f : A → B) (xs : List A) (y : B) → Contains (map f xs) y
    → (x : A) × Contains xs x × (f x ≡ y)
of_map f [] y (k, l, e) = absurd (omega arith)
of_map f (x ∷ xs) y (zero, l, e) = (x, (0, omega arith, refl), e)
of_map f (x ∷ xs) y (suc k, l, e) =
    let (z, (i, m, g), h) = of_map f xs y (k, omega arith, e) in
    (z, (suc i, omega arith, g), h)

-- a member of a list of numbered ones has a number below its length, and for each of these numbers
-- there is one
number_below : {A : Type 0} (xs : List A) (p : ℕ × A) → Contains (enumerate_from 0 xs) p
    → p.0 < length xs
number_below xs p (k, l, e) =
    let n = length-enumerate_from 0 xs in
    let k' : k < length xs = omega (arith, n) in
    let m = ap (λ q. q.0) (sym (get_or-enumerate_from 0 xs k p k') ∙ e) in
    omega (arith, m)

pub number_there : {A : Type 0} (xs : List A) (i : ℕ) (d : A) → i < length xs
    → Contains (enumerate_from 0 xs) (i, get_or xs i d)
number_there {A} xs i d l =
    let n = length-enumerate_from 0 xs in
    let e : 0 + i ≡ i = omega arith in (
      i,
      omega (arith, n),
      get_or-enumerate_from 0 xs i (i, get_or xs i d) l
          ∙ ap₂ {A = ℕ} {B = A} {C = ℕ × A} (λ a b. (a, b)) e
          (get_or_default xs i (get_or xs i d) d l),
    )

-- the stage that an end is of
pub end_stage : (places : Stage → List Place) (ss : List Stage) (x : End)
    → Contains (all_ends places ss) x → (s : Stage) × Contains ss s × (x.stage ≡ s.index)
    × (x.number < length (places s))
end_stage places ss x c =
    let (s, sc, xc) = origin (ends_at places) ss x c in
    let (p, pc, pe) = of_map (end_at s.index) (enumerate_from 0 (places s)) x xc in
    let l = number_below (places s) p pc in (
      s,
      sc,
      sym (ap (λ (y : End). y.stage) pe),
      subst (λ (y : End). y.number < length (places s)) pe l,
    )

-- a stage has an end with each number below that of its ends
pub end_there : (places : Stage → List Place) (ss : List Stage) (s : Stage) → Contains ss s
    → (i : ℕ) → i < length (places s) → (x : End) × Contains (all_ends places ss) x
    × (x.stage ≡ s.index) × (x.number ≡ i)
end_there places ss s sc i l =
    let p : ℕ × Place = (i, get_or (places s) i place.Nothing) in (
      end_at s.index p,
      in_flat_map (ends_at places) ss s (end_at s.index p) sc
          (in_map (end_at s.index) (enumerate_from 0 (places s)) p
          (number_there (places s) i place.Nothing l)),
      refl,
      refl,
    )

-- stages with one index are one
pub same_stage : (ss : List Stage) (s t : Stage) → AreInTurn 0 ss → Contains ss s → Contains ss t
    → s.index ≡ t.index → s ≡ t
same_stage ss s t h sc tc e = sym (at_index ss s s h sc).1
    ∙ (ap (λ i. get_or ss i s) e ∙ (at_index ss t s h tc).1)
