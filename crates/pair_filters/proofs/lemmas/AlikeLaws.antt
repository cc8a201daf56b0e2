-- Bytes that begin alike, as far as the first 16 tell.
use Rattle.std.proofs.Common.{◌≡◌, ◌≢◌, ℕ, ◌^◌, ◌%◌, ◌-◌, ◌<◌, ◌≤◌, Bool, true, false, not, cond}
use Rattle.std.proofs.Common.{eqb, leb, List, length, get_or, take, map, ap, refl, ◌∙◌, sym, arith}
use Rattle.std.proofs.Common.{w8}
use lib.Lanes.{zip2, mask_l, top}
use Rattle.std.specs.Int.{bit_at}
use Rattle.std.specs.Str.{bytes_eq}
use Rattle.std.proofs.lemmas.Bool.{eq-eqb, eqb-true, leb-true, leb-false}
use Rattle.std.proofs.lemmas.List.{ext_get_or, get_or-take, length-take}
use Rattle.std.proofs.lemmas.Simd.{bit_mask_l, mask_l-mod, tops_compared, get_or-zip2, length-zip2}
use Rattle.pair_filters.proofs.lemmas.RunLaws.{same_false, same_true}

abbrev differ : ℕ → ℕ → Bool
differ a b = not (eqb a b)

turned : (b : Bool) → cond {A = ℕ} (not b) 1 0 ≡ cond b 0 1
turned true = refl
turned false = refl

-- a bit of the mask of the places at which two slices differ
pub bit_differs : (a b : List ℕ) (k : ℕ) → 16 ≤ length a → 16 ≤ length b → k < 16
    → bit_at
    (mask_l (map (top 7) (zip2 (λ x y. cond (differ x y) (2 ^ 8 - 1) 0) (take 16 a) (take 16 b))) %
    2 ^ 64) k ≡ cond (eqb (get_or a k 0) (get_or b k 0)) 0 1
bit_differs a b k m l small =
    let x = take 16 a in
    let y = take 16 b in
    let i : length x ≡ 16 = omega (arith, m, length-take 16 a) in
    let j : length y ≡ 16 = omega (arith, l, length-take 16 b) in
    let zs = zip2 differ x y in
    let fits : length zs ≤ 64 = omega (arith, i, length-zip2 differ x y (i ∙ sym j)) in
    ap (λ (v : ℕ). bit_at v k) (ap (λ (ms : List Bool). mask_l ms % 2 ^ 64)
    (tops_compared w8 differ x y) ∙ mask_l-mod zs 64 fits)
    ∙ (bit_mask_l zs k
    ∙ (ap (λ (c : Bool). cond {A = ℕ} c 1 0)
    (get_or-zip2 differ x y k 0 0 false (omega (arith, i, small)) (omega (arith, j, small)))
    ∙ (turned (eqb (get_or x k 0) (get_or y k 0))
    ∙ (ap (λ (v : ℕ). cond {A = ℕ} (eqb v (get_or y k 0)) 0 1) (get_or-take 16 a k 0 small)
    ∙ ap (λ (v : ℕ). cond {A = ℕ} (eqb (get_or a k 0) v) 0 1) (get_or-take 16 b k 0 small)))))

-- two slices that differ at a place of their beginnings
pub unlike_at : (a b : List ℕ) (len place : ℕ) → place < len → get_or a place 0 ≢ get_or b place 0
    → bytes_eq (take len a) (take len b) ≡ false
unlike_at a b len place h there =
    same_false (take len a) (take len b)
    (λ e. there (sym (get_or-take len a place 0 h)
    ∙ (ap (λ (x : List ℕ). get_or x place 0) e ∙ get_or-take len b place 0 h)))

alike_by : (t : Bool) (a b : List ℕ) (len place : ℕ) → len ≤ 16 → 16 ≤ length a → 16 ≤ length b
    → ((k : ℕ) → k < place → k < 16 → get_or a k 0 ≡ get_or b k 0)
    → (place < 16 → get_or a place 0 ≢ get_or b place 0) → leb len place ≡ t
    → t ≡ bytes_eq (take len a) (take len b)
alike_by true a b len place short m l before there e =
    let all : len ≤ place = leb-true len place e in
    let x = take len a in
    let y = take len b in
    let i : length x ≡ len = omega (arith, short, m, length-take len a) in
    let j : length y ≡ len = omega (arith, short, l, length-take len b) in
    sym (same_true x y (ext_get_or 0 x y (i ∙ sym j) (λ k h.
    let low : k < len = omega (arith, h, i) in
    get_or-take len a k 0 low ∙ (before k (omega (arith, low, all)) (omega (arith, low, short))
    ∙ sym (get_or-take len b k 0 low)))))
alike_by false a b len place short m l before there e =
    let within : place < len = leb-false len place e in
    sym (unlike_at a b len place within (there (omega (arith, within, short))))

-- two slices that differ at no earlier place of their first 16 bytes
pub alike_as_far : (a b : List ℕ) (len place : ℕ) → len ≤ 16 → 16 ≤ length a → 16 ≤ length b
    → ((k : ℕ) → k < place → k < 16 → get_or a k 0 ≡ get_or b k 0)
    → (place < 16 → get_or a place 0 ≢ get_or b place 0)
    → leb len place ≡ bytes_eq (take len a) (take len b)
alike_as_far a b len place short m l before there =
    alike_by (leb len place) a b len place short m l before there refl

alike_by_bit : (b : Bool) (m x y : ℕ) → eqb x y ≡ b → m ≡ cond b 0 1 → m ≡ 0 → x ≡ y
alike_by_bit true m x y e is z = eqb-true x y e
alike_by_bit false m x y e is z = absurd (omega (arith, is, z))

-- what a bit of it says
pub alike_at : (m x y : ℕ) → m ≡ cond (eqb x y) 0 1 → m ≡ 0 → x ≡ y
alike_at m x y is z = alike_by_bit (eqb x y) m x y refl is z

pub differ_at : (m x y : ℕ) → m ≡ cond (eqb x y) 0 1 → m ≡ 1 → x ≢ y
differ_at m x y is one e =
    let zero : m ≡ 0 = is ∙ ap (λ (b : Bool). cond {A = ℕ} b 0 1) (eq-eqb x y e) in
    omega (arith, one, zero)
