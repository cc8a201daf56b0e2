-- Counts over lists that are made of lists.
use Rattle.std.proofs.Common.{◌≡◌, ℕ, zero, suc, ◌+◌, ◌*◌, ◌<◌, ◌≤◌, ◌==◌, ◌&&◌, Bool, true, false}
use Rattle.std.proofs.Common.{cond, List, [], ◌∷◌, length, map, get_or, refl, ap, ◌∙◌, ⊎_elim}
use Rattle.std.proofs.Common.{arith}
use Rattle.std.specs.List.{count_by, sum_by, filter, flat_map, enumerate_from}
use Rattle.std.proofs.lemmas.Bool.{cases_eq, eq-eqb, ne_eqb}
use Rattle.std.proofs.lemmas.List.Folds.{fold-map}
use Rattle.std.proofs.lemmas.List.Sums.{sum_by-cons, sum_by-append, sum_by-le-sum_by}
use Rattle.std.proofs.lemmas.List.Sums.{get_or-le-sum_by}

-- a count over what is made of each
pub count_map : {A B : Type 0} (f : B → Bool) (h : A → B) (xs : List A)
    → count_by f (map h xs) ≡ count_by (λ x. f (h x)) xs
count_map f h xs = fold-map (λ a x. a + cond (f x) 1 0) h 0 xs

-- sums of equal terms, and counts by tests that agree
pub sum_agree : {A : Type 0} (f g : A → ℕ) (xs : List A) → ((x : A) → f x ≡ g x)
    → sum_by f xs ≡ sum_by g xs
sum_agree f g [] h = refl
sum_agree f g (x ∷ xs) h =
    let a = sum_by-cons f x xs in
    let b = sum_by-cons g x xs in
    let e = h x in
    let ih = sum_agree f g xs h in
    omega (arith, a, b, e, ih)

pub count_agree : {A : Type 0} (f g : A → Bool) (xs : List A) → ((x : A) → f x ≡ g x)
    → count_by f xs ≡ count_by g xs
count_agree f g xs h = sum_agree (λ x. cond (f x) 1 0) (λ x. cond (g x) 1 0) xs
    (λ x. ap (λ b. cond b 1 0) (h x))

-- sums of nothing, and counts if none passes
pub sum_none : {A : Type 0} (f : A → ℕ) (xs : List A) → ((x : A) → f x ≡ 0) → sum_by f xs ≡ 0
sum_none f [] h = refl
sum_none f (x ∷ xs) h =
    let a = sum_by-cons f x xs in
    let e = h x in
    let ih = sum_none f xs h in
    omega (arith, a, e, ih)

pub count_none : {A : Type 0} (f : A → Bool) (xs : List A) → ((x : A) → f x ≡ false)
    → count_by f xs ≡ 0
count_none f xs h = sum_none (λ x. cond (f x) 1 0) xs (λ x. ap (λ b. cond b 1 0) (h x))

-- counts and sums over those that are kept
pub count_filter : {A : Type 0} (f p : A → Bool) (xs : List A)
    → count_by f (filter p xs) ≡ count_by (λ x. p x && f x) xs
count_filter f p [] = refl
count_filter {A} f p (x ∷ xs) = by_case (p x) refl (count_filter f p xs)
  where
    by_case : (b : Bool) → p x ≡ b → count_by f (filter p xs) ≡ count_by (λ x. p x && f x) xs
        → count_by f (cond b (x ∷ filter p xs) (filter p xs)) ≡ count_by (λ x. p x && f x) (x ∷ xs)
    by_case true e ih =
        let a = sum_by-cons (λ y. cond (f y) 1 0) x (filter p xs) in
        let b = sum_by-cons (λ y. cond (p y && f y) 1 0) x xs in
        let c : ◌≡◌ {A = ℕ} (cond (p x && f x) 1 0) (cond (f x) 1 0) =
        ap (λ t. cond (t && f x) 1 0) e in
        omega (arith, a, b, c, ih)
    by_case false e ih =
        let b = sum_by-cons (λ y. cond (p y && f y) 1 0) x xs in
        let c : ◌≡◌ {A = ℕ} (cond (p x && f x) 1 0) 0 = ap (λ t. cond (t && f x) 1 0) e in
        omega (arith, b, c, ih)

pub sum_filter : {A : Type 0} (f : A → ℕ) (p : A → Bool) (xs : List A)
    → sum_by f (filter p xs) ≡ sum_by (λ x. cond (p x) (f x) 0) xs
sum_filter f p [] = refl
sum_filter {A} f p (x ∷ xs) = by_case (p x) refl (sum_filter f p xs)
  where
    by_case : (b : Bool) → p x ≡ b → sum_by f (filter p xs) ≡ sum_by (λ x. cond (p x) (f x) 0) xs
        → sum_by f (cond b (x ∷ filter p xs) (filter p xs))
        ≡ sum_by (λ x. cond (p x) (f x) 0) (x ∷ xs)
    by_case true e ih =
        let a = sum_by-cons f x (filter p xs) in
        let b = sum_by-cons (λ y. cond (p y) (f y) 0) x xs in
        let c : cond (p x) (f x) 0 ≡ f x = ap (λ t. cond t (f x) 0) e in
        omega (arith, a, b, c, ih)
    by_case false e ih =
        let b = sum_by-cons (λ y. cond (p y) (f y) 0) x xs in
        let c : ◌≡◌ {A = ℕ} (cond (p x) (f x) 0) 0 = ap (λ t. cond t (f x) 0) e in
        omega (arith, b, c, ih)

-- a count over lists that are joined
pub count_flat_map : {A B : Type 0} (f : B → Bool) (h : A → List B) (xs : List A)
    → count_by f (flat_map h xs) ≡ sum_by (λ x. count_by f (h x)) xs
count_flat_map f h [] = refl
count_flat_map f h (x ∷ xs) =
    let a = sum_by-append (λ y. cond (f y) 1 0) (h x) (flat_map h xs) in
    let b = sum_by-cons (λ y. count_by f (h y)) x xs in
    let ih = count_flat_map f h xs in
    omega (arith, a, b, ih)

-- a sum of sums
pub sum_add : {A : Type 0} (f g : A → ℕ) (xs : List A)
    → sum_by (λ x. f x + g x) xs ≡ sum_by f xs + sum_by g xs
sum_add f g [] = refl
sum_add f g (x ∷ xs) =
    let a = sum_by-cons (λ y. f y + g y) x xs in
    let b = sum_by-cons f x xs in
    let c = sum_by-cons g x xs in
    let ih = sum_add f g xs in
    omega (arith, a, b, c, ih)

-- a sum of one term for each that passes
pub sum_terms : {A : Type 0} (q : A → Bool) (c : ℕ) (xs : List A)
    → sum_by (λ x. cond (q x) c 0) xs ≡ count_by q xs * c
sum_terms q c [] = omega arith
sum_terms {A} q c (x ∷ xs) = by_case (q x) refl (sum_terms q c xs)
  where
    by_case : (b : Bool) → q x ≡ b → sum_by (λ y. cond (q y) c 0) xs ≡ count_by q xs * c
        → sum_by (λ y. cond (q y) c 0) (x ∷ xs) ≡ count_by q (x ∷ xs) * c
    by_case true e ih =
        let a = sum_by-cons (λ y. cond (q y) c 0) x xs in
        let b = sum_by-cons (λ y. cond (q y) 1 0) x xs in
        let d : cond (q x) c 0 ≡ c = ap (λ t. cond t c 0) e in
        let f : ◌≡◌ {A = ℕ} (cond (q x) 1 0) 1 = ap (λ t. cond t 1 0) e in
        let g : count_by q (x ∷ xs) ≡ 1 + count_by q xs = omega (arith, b, f) in
        let m : count_by q (x ∷ xs) * c ≡ (1 + count_by q xs) * c = ap (λ n. n * c) g in
        omega (arith, a, d, m, ih)
    by_case false e ih =
        let a = sum_by-cons (λ y. cond (q y) c 0) x xs in
        let b = sum_by-cons (λ y. cond (q y) 1 0) x xs in
        let d : ◌≡◌ {A = ℕ} (cond (q x) c 0) 0 = ap (λ t. cond t c 0) e in
        let f : ◌≡◌ {A = ℕ} (cond (q x) 1 0) 0 = ap (λ t. cond t 1 0) e in
        let g : count_by q (x ∷ xs) ≡ count_by q xs = omega (arith, b, f) in
        let m : count_by q (x ∷ xs) * c ≡ count_by q xs * c = ap (λ n. n * c) g in
        omega (arith, a, d, m, ih)

-- if just one passes, a sum over those that pass is its term
pub sum_one : {A : Type 0} (q : A → Bool) (c : ℕ) (xs : List A) → count_by q xs ≡ 1
    → sum_by (λ x. cond (q x) c 0) xs ≡ c
sum_one q c xs e =
    let m = sum_terms q c xs in
    let n : count_by q xs * c ≡ 1 * c = ap (λ n. n * c) e in
    omega (arith, m, n)

-- a sum over the members of a list, taken by a key that is once in the list of keys
pub regroup : {A : Type 0} (key : A → ℕ) (h : A → ℕ) (keys : List ℕ) (xs : List A)
    → ((i : ℕ) (d : A) → i < length xs → count_by (λ t. key (get_or xs i d) == t) keys ≡ 1)
    → sum_by (λ t. sum_by h (filter (λ x. key x == t) xs)) keys ≡ sum_by h xs
regroup key h keys [] once = sum_none (λ t. 0) keys (λ t. refl)
regroup {A} key h keys (x ∷ xs) once =
    let ih = regroup key h keys xs (λ i d l. once (suc i) d (omega arith)) in
    let each : (t : ℕ) → sum_by h (filter (λ y. key y == t) (x ∷ xs))
    ≡ cond (key x == t) (h x) 0 + sum_by h (filter (λ y. key y == t) xs) =
    λ t.
    let a = sum_filter h (λ y. key y == t) (x ∷ xs) in
    let b = sum_by-cons (λ y. cond (key y == t) (h y) 0) x xs in
    let c = sum_filter h (λ y. key y == t) xs in
    omega (arith, a, b, c) in
    let s = sum_agree (λ t. sum_by h (filter (λ y. key y == t) (x ∷ xs)))
    (λ t. cond (key x == t) (h x) 0 + sum_by h (filter (λ y. key y == t) xs)) keys each in
    let d = sum_add (λ t. cond (key x == t) (h x) 0)
    (λ t. sum_by h (filter (λ y. key y == t) xs)) keys in
    let o = sum_one (λ t. key x == t) (h x) keys (once 0 x (omega arith)) in
    let c = sum_by-cons h x xs in
    omega (arith, s, d, o, c, ih)

-- if just one passes, a further test decides
pub count_one_and : {A : Type 0} (u k : A → Bool) (xs : List A) → count_by k xs ≡ 1
    → (i : ℕ) (d : A) → i < length xs → k (get_or xs i d) ≡ true
    → count_by (λ x. u x && k x) xs ≡ cond (u (get_or xs i d)) 1 0
count_one_and u k [] e i d l h = absurd (omega arith)
count_one_and {A} u k (x ∷ xs) e zero d l h =
    let a = sum_by-cons (λ y. cond (k y) 1 0) x xs in
    let b = sum_by-cons (λ y. cond (u y && k y) 1 0) x xs in
    let c : ◌≡◌ {A = ℕ} (cond (k x) 1 0) 1 = ap (λ t. cond t 1 0) h in
    let z = none_and xs (omega (arith, a, c, e)) in
    let f : ◌≡◌ {A = ℕ} (cond (u x && k x) 1 0) (cond (u x) 1 0) = ap (λ t. cond (u x && t) 1 0) h
    ∙ ap (λ t. cond t 1 0) (and_true (u x)) in
    omega (arith, b, f, z)
  where
    and_true : (b : Bool) → (b && true) ≡ b
    and_true true = refl
    and_true false = refl

    none_and : (ys : List A) → count_by k ys ≡ 0 → count_by (λ y. u y && k y) ys ≡ 0
    none_and ys n = let m = sum_le ys in omega (arith, m, n)
      where
        sum_le : (ys : List A) → count_by (λ y. u y && k y) ys ≤ count_by k ys
        sum_le ys = sum_by-le-sum_by (λ y. cond (u y && k y) 1 0) (λ y. cond (k y) 1 0) ys
            (λ y. less (u y) (k y))
          where
            less : (a b : Bool) → ◌≤◌ (cond (a && b) 1 0) (cond b 1 0)
            less true b = omega arith
            less false b = omega arith
count_one_and {A} u k (x ∷ xs) e (suc i) d l h =
    by_case (k x) refl (count_one_and u k xs) (get_le xs i d (omega arith) h)
  where
    get_le : (ys : List A) (i : ℕ) (d : A) → i < length ys → k (get_or ys i d) ≡ true
        → 1 ≤ count_by k ys
    get_le ys i d l h =
        let g = get_or-le-sum_by (λ y. cond (k y) 1 0) ys i d l in
        let o : ◌≡◌ {A = ℕ} (cond (k (get_or ys i d)) 1 0) 1 = ap (λ b. cond b 1 0) h in
        omega (arith, g, o)

    by_case : (b : Bool) → k x ≡ b
        → (count_by k xs ≡ 1 → (i : ℕ) (d : A) → i < length xs → k (get_or xs i d) ≡ true
        → count_by (λ x. u x && k x) xs ≡ cond (u (get_or xs i d)) 1 0) → 1 ≤ count_by k xs
        → count_by (λ x. u x && k x) (x ∷ xs) ≡ cond (u (get_or xs i d)) 1 0
    by_case true f ih some =
        let a = sum_by-cons (λ y. cond (k y) 1 0) x xs in
        let c : ◌≡◌ {A = ℕ} (cond (k x) 1 0) 1 = ap (λ t. cond t 1 0) f in
        absurd (omega (arith, a, c, e, some))
    by_case false f ih some =
        let a = sum_by-cons (λ y. cond (k y) 1 0) x xs in
        let b = sum_by-cons (λ y. cond (u y && k y) 1 0) x xs in
        let c : ◌≡◌ {A = ℕ} (cond (k x) 1 0) 0 = ap (λ t. cond t 1 0) f in
        let g : ◌≡◌ {A = ℕ} (cond (u x && k x) 1 0) 0 = ap (λ t. cond (u x && t) 1 0) f
        ∙ ap (λ t. cond t 1 0) (and_false (u x)) in
        let r = ih (omega (arith, a, c, e)) i d (omega arith) h in
        omega (arith, b, g, r)
      where
        and_false : (b : Bool) → (b && false) ≡ false
        and_false true = refl
        and_false false = refl

-- ---- numbered things

none_at : {X : Type 0} (xs : List X) (a i : ℕ) → i < a
    → count_by (λ (p : ℕ × X). p.0 == i) (enumerate_from a xs) ≡ 0
none_at [] a i l = refl
none_at {X} (x ∷ xs) a i l =
    let s = sum_by-cons (λ (p : ℕ × X). cond (p.0 == i) 1 0) (a, x) (enumerate_from (a + 1) xs) in
    let z : ◌≡◌ {A = ℕ} (cond (a == i) 1 0) 0 =
    ap (λ b. cond b 1 0) (ne_eqb a i (λ e. omega arith)) in
    let ih = none_at xs (a + 1) i (omega arith) in
    omega (arith, s, z, ih)

-- a list of numbered things has each number at most once
pub one_at : {X : Type 0} (xs : List X) (a i : ℕ)
    → count_by (λ (p : ℕ × X). p.0 == i) (enumerate_from a xs) ≤ 1
one_at [] a i = omega arith
one_at {X} (x ∷ xs) a i = ⊎_elim
    (λ (e : a ≡ i).
    let s = sum_by-cons (λ (p : ℕ × X). cond (p.0 == i) 1 0) (a, x) (enumerate_from (a + 1) xs) in
    let z : ◌≡◌ {A = ℕ} (cond (a == i) 1 0) 1 = ap (λ b. cond b 1 0) (eq-eqb a i e) in
    let n = none_at xs (a + 1) i (omega arith) in
    omega (arith, s, z, n))
    (λ (ne : a ≡ i → ⊥).
    let s = sum_by-cons (λ (p : ℕ × X). cond (p.0 == i) 1 0) (a, x) (enumerate_from (a + 1) xs) in
    let z : ◌≡◌ {A = ℕ} (cond (a == i) 1 0) 0 = ap (λ b. cond b 1 0) (ne_eqb a i ne) in
    let ih = one_at xs (a + 1) i in
    omega (arith, s, z, ih))
    (cases_eq a i)
