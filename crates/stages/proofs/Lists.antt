-- Two lists side by side.
use Rattle.std.proofs.Common.{◌≡◌, ℕ, zero, suc, ◌<◌, ◌≤◌, ◌⊎◌, ⊎_elim, inl, inr, List, [], ◌∷◌}
use Rattle.std.proofs.Common.{length, get_or, set, take, drop, refl, ap, subst, arith}
use Rattle.std.proofs.lemmas.Bool.{cases_order}
use Rattle.std.specs.List.{AllZip, AllByRecursion}

pub below_or_not : (a b : ℕ) → (a < b) ⊎ (b ≤ a)
below_or_not a b = ⊎_elim (λ e. inr (omega (arith, e))) (⊎_elim inl (λ h. inr (omega (arith, h))))
    (cases_order a b)

pub zip_get : {X Y : Type 0} (R : X → Y → Type 0) (xs : List X) (ys : List Y) (k : ℕ) (d : X)
    (e : Y) → AllZip R xs ys → k < length ys → R (get_or xs k d) (get_or ys k e)
zip_get R [] [] k d e a l = absurd (omega arith)
zip_get R (x ∷ xs) (y ∷ ys) zero d e a l = a.0
zip_get R (x ∷ xs) (y ∷ ys) (suc k) d e a l = zip_get R xs ys k d e a.1 (omega arith)
zip_get R _ _ k d e a l = absurd a

pub zip_set : {X Y : Type 0} (R : X → Y → Type 0) (xs : List X) (ys : List Y) (k : ℕ) (x : X)
    (y : Y) → AllZip R xs ys → R x y → AllZip R (set xs k x) (set ys k y)
zip_set R [] [] k x y a r = tt
zip_set R (c ∷ xs) (b ∷ ys) zero x y a r = (r, a.1)
zip_set R (c ∷ xs) (b ∷ ys) (suc k) x y a r = (a.0, zip_set R xs ys k x y a.1 r)
zip_set R _ _ k x y a r = absurd a

pub zip_weaker : {X Y : Type 0} (R S : X → Y → Type 0) → ((x : X) (y : Y) → R x y → S x y)
    → (xs : List X) (ys : List Y) → AllZip R xs ys → AllZip S xs ys
zip_weaker R S h [] [] a = tt
zip_weaker R S h (c ∷ xs) (b ∷ ys) a = (h c b a.0, zip_weaker R S h xs ys a.1)
zip_weaker R S h _ _ a = absurd a

pub zip_refl : {X : Type 0} (R : X → X → Type 0) → ((x : X) → R x x) → (xs : List X)
    → AllZip R xs xs
zip_refl R h [] = tt
zip_refl R h (x ∷ xs) = (h x, zip_refl R h xs)

pub zip_trans : {X Y Z : Type 0} (R : X → Y → Type 0) (S : Y → Z → Type 0) (T : X → Z → Type 0)
    → ((x : X) (y : Y) (z : Z) → R x y → S y z → T x z) → (xs : List X) (ys : List Y) (zs : List Z)
    → AllZip R xs ys → AllZip S ys zs → AllZip T xs zs
zip_trans R S T h [] [] [] a b = tt
zip_trans R S T h [] [] (z ∷ zs) a b = absurd b
zip_trans R S T h (x ∷ xs) (y ∷ ys) [] a b = absurd b
zip_trans R S T h (x ∷ xs) (y ∷ ys) (z ∷ zs) a b =
    (h x y z a.0 b.0, zip_trans R S T h xs ys zs a.1 b.1)
zip_trans R S T h _ _ zs a b = absurd a

pub zip_flip : {X Y : Type 0} (R : X → Y → Type 0) (xs : List X) (ys : List Y) → AllZip R xs ys
    → AllZip (λ y x. R x y) ys xs
zip_flip R [] [] a = tt
zip_flip R (x ∷ xs) (y ∷ ys) a = (a.0, zip_flip R xs ys a.1)
zip_flip R _ _ a = absurd a

pub zip_length : {X Y : Type 0} (R : X → Y → Type 0) (xs : List X) (ys : List Y) → AllZip R xs ys
    → length xs ≡ length ys
zip_length R [] [] a = refl
zip_length R (x ∷ xs) (y ∷ ys) a = ap suc (zip_length R xs ys a.1)
zip_length R _ _ a = absurd a

-- one element goes on, and the others stay
pub zip_step : {X : Type 0} (R : X → X → Type 0) → ((x : X) → R x x)
    → (xs : List X) (k : ℕ) (x y : X) → x ≡ get_or xs k x → R x y → AllZip R xs (set xs k y)
zip_step R h [] k x y e r = tt
zip_step {X} R h (a ∷ xs) zero x y e r = (
  let P : X → Type 0 = λ v. R v y in
      subst P e r,
  zip_refl R h xs,
)
zip_step R h (a ∷ xs) (suc k) x y e r = (h a, zip_step R h xs k x y e r)

-- what is so of each pair, said of one of the two
pub zip_all : {X Y : Type 0} (R : X → Y → Type 0) (P : X → Type 0) → ((x : X) (y : Y) → R x y → P x)
    → (xs : List X) (ys : List Y) → AllZip R xs ys → AllByRecursion P xs
zip_all R P h [] [] a = tt
zip_all R P h (x ∷ xs) (y ∷ ys) a = (h x y a.0, zip_all R P h xs ys a.1)
zip_all R P h _ _ a = absurd a

-- what is so of each element, carried over to the other list
pub all_carried : {X Y : Type 0} (R : X → Y → Type 0) (P : X → Type 0) (Q : Y → Type 0)
    → ((x : X) (y : Y) → R x y → P x → Q y) → (xs : List X) (ys : List Y) → AllZip R xs ys
    → AllByRecursion P xs → AllByRecursion Q ys
all_carried R P Q h [] [] a p = tt
all_carried R P Q h (x ∷ xs) (y ∷ ys) a p = (h x y a.0 p.0, all_carried R P Q h xs ys a.1 p.1)
all_carried R P Q h _ _ a p = absurd a

-- one element more
pub zip_one_more : {X : Type 0} (R : X → X → Type 0) (xs zs : List X) (n : ℕ) (d y : X)
    → n < length xs → AllZip R (take n xs) (take n zs) → drop n zs ≡ drop n xs → R (get_or zs n d) y
    → AllZip R (take (suc n) xs) (take (suc n) (set zs n y))
    × (drop (suc n) (set zs n y) ≡ drop (suc n) xs)
zip_one_more R [] zs n d y l a e r = absurd (omega arith)
zip_one_more R (v ∷ xs) [] zero d y l a e r = absurd (cc)
zip_one_more {X} R (v ∷ xs) (z ∷ zs) zero d y l a e r = (
  (subst (λ (t : X). R t y) (ap (λ (t : List X). get_or t 0 d) e) r, tt),
  ap (λ (t : List X). drop 1 t) e,
)
zip_one_more R (v ∷ xs) [] (suc n) d y l a e r = absurd a
zip_one_more R (v ∷ xs) (z ∷ zs) (suc n) d y l a e r =
    let more = zip_one_more R xs zs n d y (omega arith) a.1 e r in
    ((a.0, more.0), more.1)
