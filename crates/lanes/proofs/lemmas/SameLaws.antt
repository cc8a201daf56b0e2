-- Chunks that begin with the same bytes.
use Rattle.std.proofs.Common.{◌≡◌, ◌≢◌, ℕ, ◌^◌, ◌%◌, ◌-◌, ◌<◌, ◌≤◌, Bool, true, false, not, cond}
use Rattle.std.proofs.Common.{eqb, leb, List, length, get_or, take, map, refl, ap, ◌∙◌, sym, arith}
use Rattle.std.proofs.Common.{w8}
use lib.Lanes.{zip2, mask_l, top}
use Rattle.std.specs.Int.{bit_at}
use Rattle.std.specs.Str.{bytes_eq}
use Rattle.std.proofs.lemmas.Bool.{leb-true, leb-false}
use Rattle.std.proofs.lemmas.List.{ext_get_or, get_or-take, length-take}
use Rattle.std.proofs.lemmas.Simd.{bit_mask_l, mask_l-mod, tops_compared, get_or-zip2, length-zip2}
use Rattle.std.proofs.lemmas.Slice.Eq.{bytes_eq-Decides}

abbrev differ : ℕ → ℕ → Bool
differ a b = not (eqb a b)

turned : (b : Bool) → cond {A = ℕ} (not b) 1 0 ≡ cond b 0 1
turned true = refl
turned false = refl

-- a bit of the mask of the places at which two chunks differ
pub bit_differs : (a b : List ℕ) (n k : ℕ) → n ≤ 64 → length a ≡ 64 → length b ≡ 64 → k < n
    → bit_at
    (mask_l (map (top 7) (zip2 (λ x y. cond (differ x y) (2 ^ 8 - 1) 0) (take n a) (take n b))) % 2
    ^ 64) k ≡ cond (eqb (get_or a k 0) (get_or b k 0)) 0 1
bit_differs a b n k most m l small =
    let x = take n a in
    let y = take n b in
    let i : length x ≡ n = omega (arith, m, most, length-take n a) in
    let j : length y ≡ n = omega (arith, l, most, length-take n b) in
    let zs = zip2 differ x y in
    let fits : length zs ≤ 64 = omega (arith, i, most, length-zip2 differ x y (i ∙ sym j)) in
    ap (λ (v : ℕ). bit_at v k) (ap (λ (ms : List Bool). mask_l ms % 2 ^ 64)
    (tops_compared w8 differ x y) ∙ mask_l-mod zs 64 fits)
    ∙ (bit_mask_l zs k
    ∙ (ap (λ (c : Bool). cond {A = ℕ} c 1 0)
    (get_or-zip2 differ x y k 0 0 false (omega (arith, i, small)) (omega (arith, j, small)))
    ∙ (turned (eqb (get_or x k 0) (get_or y k 0))
    ∙ (ap (λ (v : ℕ). cond {A = ℕ} (eqb v (get_or y k 0)) 0 1) (get_or-take n a k 0 small)
    ∙ ap (λ (v : ℕ). cond {A = ℕ} (eqb (get_or a k 0) v) 0 1) (get_or-take n b k 0 small)))))

front_at : (front chunk : List ℕ) (k : ℕ) → take (length front) chunk ≡ front → k < length front
    → get_or front k 0 ≡ get_or chunk k 0
front_at front chunk k e h = ap (λ (xs : List ℕ). get_or xs k 0) (sym e)
    ∙ get_or-take (length front) chunk k 0 h

apart : (b : Bool) (x y : List ℕ) → bytes_eq x y ≡ b → (x ≡ y → ⊥) → false ≡ b
apart true x y e h = absurd (h ((bytes_eq-Decides x y).0 e))
apart false x y e h = refl

same_by : (b : Bool) (x y p q : List ℕ) (r : ℕ) → length x ≡ length y → length x ≤ 64
    → take (length x) p ≡ x → take (length y) q ≡ y
    → ((k : ℕ) → k < r → get_or p k 0 ≡ get_or q k 0) → (r < 64 → get_or p r 0 ≢ get_or q r 0)
    → leb (length x) r ≡ b → b ≡ bytes_eq x y
same_by true x y p q r long short f g before there e =
    let all : length x ≤ r = leb-true (length x) r e in
    sym ((bytes_eq-Decides x y).1 (ext_get_or 0 x y long (λ k h. front_at x p k f h
    ∙ (before k (omega (arith, h, all)) ∙ sym (front_at y q k g (omega (arith, h, long)))))))
same_by false x y p q r long short f g before there e =
    let within : r < length x = leb-false (length x) r e in
    apart (bytes_eq x y) x y refl (λ same. there (omega (arith, within, short))
    (sym (front_at x p r f within)
    ∙ (ap (λ (xs : List ℕ). get_or xs r 0) same
    ∙ front_at y q r g (omega (arith, within, long)))))

-- two chunks that differ at no place before r
pub same_fronts : (x y p q : List ℕ) (n r : ℕ) → length x ≡ length y → n ≡ length x → length x ≤ 64
    → take (length x) p ≡ x → take (length y) q ≡ y
    → ((k : ℕ) → k < r → get_or p k 0 ≡ get_or q k 0) → (r < 64 → get_or p r 0 ≢ get_or q r 0)
    → leb n r ≡ bytes_eq x y
same_fronts x y p q n r long is short f g before there = ap (λ (k : ℕ). leb k r) is
    ∙ same_by (leb (length x) r) x y p q r long short f g before there refl

-- two chunks that differ at a place of theirs
pub other_fronts : (x y p q : List ℕ) (k : ℕ) → length x ≡ length y → k < length x
    → take (length x) p ≡ x → take (length y) q ≡ y → get_or p k 0 ≢ get_or q k 0
    → false ≡ bytes_eq x y
other_fronts x y p q k long within f g there =
    apart (bytes_eq x y) x y refl (λ same. there (sym (front_at x p k f within)
    ∙ (ap (λ (xs : List ℕ). get_or xs k 0) same
    ∙ front_at y q k g (omega (arith, within, long)))))
