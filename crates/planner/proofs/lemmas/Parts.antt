-- What is at a place of a list that is made of other lists.
use Rattle.std.proofs.Common.{◌≡◌, ℕ, zero, suc, ◌+◌, ◌<◌, ◌≤◌, ◌⊎◌, ◌||◌, Bool, true, false, List}
use Rattle.std.proofs.Common.{[], ◌∷◌, ◌++◌, length, map, get_or, Some, slice_get, refl, ap, ◌∙◌}
use Rattle.std.proofs.Common.{inl, inr, ⊎_elim, arith}
use Rattle.std.specs.List.{Contains, count_by, list_any, enumerate_from, filter, position_or_len}
use Rattle.std.proofs.lemmas.Bool.{or_left, or_right, or_from}
use Rattle.std.proofs.lemmas.Option.{none-some, same_Some, slice_get-get_or, slice_get_within}
use Rattle.std.proofs.lemmas.Option.{get_or_from_slice_get}
use Rattle.std.proofs.lemmas.List.Elements.{All-filter, All-contains, All-contains_itself}
use Rattle.std.proofs.lemmas.List.Elements.{filter_passes}
use Rattle.std.proofs.lemmas.List.Sums.{passes_at_first}
use Rattle.planner.proofs.lemmas.SortLaws.{position_at_most, same_counted}

-- what is at a place is an element, and an element is at a place
pub contains_at : {A : Type 0} (xs : List A) (k : ℕ) (x : A) → slice_get xs k ≡ Some x
    → Contains xs x
contains_at xs k x e = (k, slice_get_within xs k x e, get_or_from_slice_get xs k x x e)

pub place_of_one : {A : Type 0} (xs : List A) (x : A) → Contains xs x
    → (k : ℕ) × (slice_get xs k ≡ Some x)
place_of_one xs x (k, l, e) = (k, slice_get-get_or xs k x l ∙ ap Some e)

-- two places whose elements pass a test that at most one passes are one
pub same_place : {A : Type 0} (f : A → Bool) (xs : List A) → count_by f xs ≤ 1 → (i j : ℕ) (x y : A)
    → slice_get xs i ≡ Some x → slice_get xs j ≡ Some y → f x ≡ true → f y ≡ true → i ≡ j
same_place f xs few i j x y e g p q =
    same_counted f xs few i j x (slice_get_within xs i x e) (slice_get_within xs j y g)
    (ap f (get_or_from_slice_get xs i x x e) ∙ p) (ap f (get_or_from_slice_get xs j y x g) ∙ q)

-- the only element of a list
pub only_one : {A : Type 0} (x y : A) → Contains (x ∷ []) y → x ≡ y
only_one x y (zero, l, e) = e
only_one x y (suc k, l, e) = absurd (omega arith)

-- ---- two lists

pub front_of : {A : Type 0} (xs ys : List A) (k : ℕ) (x : A) → slice_get xs k ≡ Some x
    → slice_get (xs ++ ys) k ≡ Some x
front_of [] ys k x e = absurd (none-some x e)
front_of (y ∷ xs) ys zero x e = e
front_of (y ∷ xs) ys (suc k) x e = front_of xs ys k x e

pub behind : {A : Type 0} (xs ys : List A) (k : ℕ)
    → slice_get (xs ++ ys) (length xs + k) ≡ slice_get ys k
behind [] ys k = let z : 0 + k ≡ k = omega arith in ap (λ i. slice_get ys i) z
behind (x ∷ xs) ys k =
    let z : suc (length xs) + k ≡ suc (length xs + k) = omega arith in
    ap (λ i. slice_get (x ∷ xs ++ ys) i) z ∙ behind xs ys k

pub of_two : {A : Type 0} (xs ys : List A) (k : ℕ) (x : A) → slice_get (xs ++ ys) k ≡ Some x
    → (slice_get xs k ≡ Some x) ⊎ ((j : ℕ) × (k ≡ length xs + j) × (slice_get ys j ≡ Some x))
of_two [] ys k x e = inr (k, omega arith, e)
of_two (y ∷ xs) ys zero x e = inl e
of_two (y ∷ xs) ys (suc k) x e = ⊎_elim inl (λ r. let (j, a, b) = r in
    inr (j, omega arith, b)) (of_two xs ys k x e)

-- ---- what is made of each

pub mapped_at : {A B : Type 0} (f : A → B) (xs : List A) (k : ℕ) (x : A) → slice_get xs k ≡ Some x
    → slice_get (map f xs) k ≡ Some (f x)
mapped_at f [] k x e = absurd (none-some x e)
mapped_at f (y ∷ xs) zero x e = ap (λ z. Some (f z)) (same_Some y x e)
mapped_at f (y ∷ xs) (suc k) x e = mapped_at f xs k x e

pub of_mapped : {A B : Type 0} (f : A → B) (xs : List A) (k : ℕ) (y : B)
    → slice_get (map f xs) k ≡ Some y → (x : A) × (slice_get xs k ≡ Some x) × (f x ≡ y)
of_mapped f [] k y e = absurd (none-some y e)
of_mapped f (x ∷ xs) zero y e = (x, refl, same_Some (f x) y e)
of_mapped f (x ∷ xs) (suc k) y e = of_mapped f xs k y e

-- numbered things, made of others
pub numbered_map : {A B : Type 0} (f : A → B) (n : ℕ) (xs : List A)
    → enumerate_from n (map f xs) ≡ map (λ (p : ℕ × A). (p.0, f p.1)) (enumerate_from n xs)
numbered_map f n [] = refl
numbered_map f n (x ∷ xs) = ap (λ zs. (n, f x) ∷ zs) (numbered_map f (n + 1) xs)

-- what is kept is there, and passes
pub of_filter : {A : Type 0} (q : A → Bool) (xs : List A) (x : A) → Contains (filter q xs) x
    → Contains xs x × (q x ≡ true)
of_filter q xs x c = (
  All-contains (Contains xs) (filter q xs) x
      (All-filter q (Contains xs) xs (All-contains_itself xs)) c,
  All-contains (λ y. q y ≡ true) (filter q xs) x (filter_passes q xs) c,
)

-- ---- whether one passes

pub none_any : {A : Type 0} (f : A → Bool) (xs : List A) → ((x : A) → f x ≡ false)
    → list_any f xs ≡ false
none_any f [] h = refl
none_any f (x ∷ xs) h = or_from (f x) (list_any f xs) (h x) (none_any f xs h)

pub any_from : {A : Type 0} (f : A → Bool) (xs : List A) (k : ℕ) (d : A) → k < length xs
    → f (get_or xs k d) ≡ true → list_any f xs ≡ true
any_from f [] k d l e = absurd (omega arith)
any_from f (x ∷ xs) zero d l e = or_left (f x) (list_any f xs) e
any_from f (x ∷ xs) (suc k) d l e = or_right (f x) (list_any f xs)
    (any_from f xs k d (omega arith) e)

any_there : {A : Type 0} (f : A → Bool) (xs : List A) (d : A) → list_any f xs ≡ true
    → (k : ℕ) × (k < length xs) × (f (get_or xs k d) ≡ true)
any_there f [] d e = absurd (cc e)
any_there {A} f (x ∷ xs) d e = go (f x) refl e (any_there f xs d)
  where
    go : (b : Bool) → f x ≡ b → (b || list_any f xs) ≡ true
        → (list_any f xs ≡ true → (k : ℕ) × (k < length xs) × (f (get_or xs k d) ≡ true))
        → (k : ℕ) × (k < length (x ∷ xs)) × (f (get_or (x ∷ xs) k d) ≡ true)
    go true h g ih = (0, omega arith, h)
    go false h g ih = let (k, l, p) = ih g in (suc k, omega arith, p)

-- the first that passes is there
pub first_there : {A : Type 0} (f : A → Bool) (xs : List A) (d : A) → list_any f xs ≡ true
    → (position_or_len f xs < length xs) × (f (get_or xs (position_or_len f xs) d) ≡ true)
first_there f xs d e =
    let (k, l, p) = any_there f xs d e in
    let m = position_at_most f xs k d p in
    let w : position_or_len f xs < length xs = omega arith in
    (w, passes_at_first f xs d w)
