-- What the masks of a lane say of its bytes.
use Rattle.std.proofs.Common.{◌≡◌, ◌≢◌, ℕ, zero, suc, ◌+◌, ◌-◌, ◌*◌, ◌/◌, ◌%◌, ◌^◌, ◌<◌, ◌≤◌, Bool}
use Rattle.std.proofs.Common.{true, false, cond, eqb, leb, List, [], ◌∷◌, length, get_or, take, drop}
use Rattle.std.proofs.Common.{map, refl, ap, ◌∙◌, sym, arith, shr-shr, ⊎_elim}
use Rattle.std.specs.Prelude.{◌&&◌, ◌||◌, not}
use Rattle.std.specs.List.{prefix_len}
use Rattle.std.specs.Int.{bit_at}
use Rattle.std.specs.Int.Bits.{bit_and, bit_or}
use Rattle.std.specs.Simd.Lanes.{mask_l}
use lib.Count.{count_trailing_zeros}
use lib.Lanes.{top}
use Rattle.std.proofs.lemmas.Bool.{cases_lt, eq-eqb, ne_eqb}
use Rattle.std.proofs.lemmas.Bool.Decides.{nat_tests}
use Rattle.std.proofs.lemmas.Nat.Bits.{bit_at_and, bit_at_cat_high, bit_at_cat_low, bit_at_lowest}
use Rattle.std.proofs.lemmas.Nat.Bits.{bit_at_ones, bit_at_ones_above, bit_at-lt, bit_at-suc}
use Rattle.std.proofs.lemmas.Nat.Bits.{bit_at-zero}
use Rattle.std.proofs.lemmas.Simd.{bit_mask_l, first_set_mask_l, map-map, mask_l-mod}
use Rattle.std.proofs.lemmas.List.{length-take, length-drop, length-map, get_or-map, get_or-take}
use Rattle.command_words.specs.Bytes.{is_blank_byte}
use Rattle.byte_filters.specs.inner.Scans.{is_mover, past_blank}

pub lane_long : (bytes : List ℕ) (at : ℕ) → at + 64 ≤ length bytes
    → length (take 64 (drop at bytes)) ≡ 64
lane_long bytes at room = omega (arith, room, length-take 64 (drop at bytes), length-drop at bytes)

maps_same : {A B : Type 0} (f g : A → B) (xs : List A) → ((x : A) → f x ≡ g x) → map f xs ≡ map g xs
maps_same f g [] same = refl
maps_same f g (x ∷ xs) same = ap (λ y. y ∷ map f xs) (same x)
    ∙ ap (λ ys. g x ∷ ys) (maps_same f g xs same)

-- ---- the two masks

-- the mask of the bytes that pass a test, from lanes that have their top bit by it
masked : (p : ℕ → Bool) (lane : ℕ → ℕ) (bytes : List ℕ) (at : ℕ) (lanes : List ℕ)
    → ((x : ℕ) → top 7 (lane x) ≡ p x) → at + 64 ≤ length bytes
    → lanes ≡ map lane (take 64 (drop at bytes))
    → mask_l (map (top 7) lanes) % 2 ^ 64 ≡ mask_l (map p (take 64 (drop at bytes)))
masked p lane bytes at lanes tops room e =
    let chunk = take 64 (drop at bytes) in
    ap (λ (zs : List ℕ). mask_l (map (top 7) zs) % 2 ^ 64) e
    ∙ (ap (λ (ms : List Bool). mask_l ms % 2 ^ 64) (map-map (top 7) lane chunk
    ∙ maps_same (λ x. top 7 (lane x)) p chunk tops)
    ∙ mask_l-mod (map p chunk) 64 (omega (arith, length-map chunk p, lane_long bytes at room)))

abbrev mover_lane : ℕ → ℕ
mover_lane x = bit_or (bit_and (cond (leb 8 x) 255 0) (cond (leb x 10) 255 0))
    (cond (eqb x 13) 255 0)

mover_top : (a b c : Bool)
    → top 7 (bit_or (bit_and (cond a 255 0) (cond b 255 0)) (cond c 255 0)) ≡ ((a && b) || c)
mover_top true true true = refl
mover_top true true false = refl
mover_top true false true = refl
mover_top true false false = refl
mover_top false true true = refl
mover_top false true false = refl
mover_top false false true = refl
mover_top false false false = refl

near_or_far : (x : ℕ) → ((leb 8 x && leb x 10) || eqb x 13) ≡ is_mover x
near_or_far x = grind (arith, nat_tests)

pub movers_masked : (bytes : List ℕ) (at : ℕ) (lanes : List ℕ) → at + 64 ≤ length bytes
    → lanes ≡ map mover_lane (take 64 (drop at bytes))
    → mask_l (map (top 7) lanes) % 2 ^ 64 ≡ mask_l (map is_mover (take 64 (drop at bytes)))
movers_masked bytes at lanes room e =
    masked is_mover mover_lane bytes at lanes
    (λ x. mover_top (leb 8 x) (leb x 10) (eqb x 13) ∙ near_or_far x) room e

abbrev blank_lane : ℕ → ℕ
blank_lane x = bit_or (cond (eqb x 32) 255 0) (cond (eqb x 9) 255 0)

blank_top : (a b : Bool) → top 7 (bit_or (cond a 255 0) (cond b 255 0)) ≡ (a || b)
blank_top true true = refl
blank_top true false = refl
blank_top false true = refl
blank_top false false = refl

pub blanks_masked : (bytes : List ℕ) (at : ℕ) (lanes : List ℕ) → at + 64 ≤ length bytes
    → lanes ≡ map blank_lane (take 64 (drop at bytes))
    → mask_l (map (top 7) lanes) % 2 ^ 64 ≡ mask_l (map is_blank_byte (take 64 (drop at bytes)))
blanks_masked bytes at lanes room e =
    masked is_blank_byte blank_lane bytes at lanes (λ x. blank_top (eqb x 32) (eqb x 9)) room e

-- ---- the run in front

run_by : (bytes : List ℕ) (at m : ℕ) (b : Bool) → at + 64 ≤ length bytes
    → m ≡ mask_l (map is_mover (take 64 (drop at bytes))) → eqb m 0 ≡ b
    → cond b 64 (count_trailing_zeros 64 m)
    ≡ prefix_len (λ x. not (is_mover x)) (take 64 (drop at bytes))
run_by bytes at m b room is e =
    ap (λ (c : Bool). cond c 64 (count_trailing_zeros 64 m)) (sym e)
    ∙ (ap (λ (n : ℕ). cond (eqb n 0) 64 (count_trailing_zeros 64 n)) is
    ∙ first_set_mask_l is_mover (take 64 (drop at bytes)) 64 (lane_long bytes at room)
    (omega arith))

-- no bit is set
pub whole_run : (bytes : List ℕ) (at m : ℕ) → at + 64 ≤ length bytes
    → m ≡ mask_l (map is_mover (take 64 (drop at bytes))) → m ≡ 0
    → 64 ≡ prefix_len (λ x. not (is_mover x)) (take 64 (drop at bytes))
whole_run bytes at m room is none = run_by bytes at m true room is (eq-eqb m 0 none)

-- one is
pub short_run : (bytes : List ℕ) (at m : ℕ) → at + 64 ≤ length bytes
    → m ≡ mask_l (map is_mover (take 64 (drop at bytes))) → m ≢ 0
    → count_trailing_zeros 64 m ≡ prefix_len (λ x. not (is_mover x)) (take 64 (drop at bytes))
short_run bytes at m room is some = run_by bytes at m false room is (ne_eqb m 0 some)

-- ---- bits

-- the highest bit that is set
pub bit_at_top : (m j : ℕ) → 2 ^ j ≤ m → m < 2 ^ suc j → bit_at m j ≡ 1
bit_at_top m j low high =
    let e : 1 * 2 ^ j + (m - 2 ^ j) ≡ m = omega (arith, low) in
    let small : m - 2 ^ j < 2 ^ j = omega (arith, low, high) in
    let n : j - j ≡ 0 = omega arith in
    ap (λ (x : ℕ). bit_at x j) (sym e)
    ∙ (bit_at_cat_high 1 j (m - 2 ^ j) j small (omega arith) ∙ ap (bit_at 1) n)

-- the bits of a mask of 64 ones that lost its lowest ones
ones_bit : (s k : ℕ) → s + k < 64 → bit_at ((2 ^ 64 - 1) / 2 ^ s) k ≡ 1
ones_bit s k h = ap (λ (x : ℕ). x % 2) (shr-shr (2 ^ 64 - 1) s k) ∙ bit_at_ones 64 (s + k) h

no_bit : (s k : ℕ) → 64 ≤ s + k → bit_at ((2 ^ 64 - 1) / 2 ^ s) k ≡ 0
no_bit s k h = ap (λ (x : ℕ). x % 2) (shr-shr (2 ^ 64 - 1) s k) ∙ bit_at_ones_above 64 (s + k) h

pub low_bit : (m n k : ℕ) → n ≤ 64 → k < n
    → bit_at (bit_and m ((2 ^ 64 - 1) / 2 ^ (64 - n))) k ≡ bit_at m k
low_bit m n k few low =
    omega (
      arith,
      bit_at_and m ((2 ^ 64 - 1) / 2 ^ (64 - n)) k,
      ones_bit (64 - n) k (omega (arith, few, low)),
      bit_at-lt m k,
    )

pub high_bit : (m n k : ℕ) → n ≤ 64 → n ≤ k
    → bit_at (bit_and m ((2 ^ 64 - 1) / 2 ^ (64 - n))) k ≡ 0
high_bit m n k few high =
    omega (
      arith,
      bit_at_and m ((2 ^ 64 - 1) / 2 ^ (64 - n)) k,
      no_bit (64 - n) k (omega (arith, few, high)),
    )

lowest_by : (b : Bool) (m : ℕ) → (m * 2 % 2 ^ 64 + cond b 1 0) % 2 ≡ cond b 1 0
lowest_by true m = omega arith
lowest_by false m = omega arith

carried : (b : Bool) (m : ℕ) → (m * 2 % 2 ^ 64 + cond b 1 0) / 2 ≡ m % 2 ^ 63
carried true m = omega arith
carried false m = omega arith

pub first_bit : (b : Bool) (m : ℕ) → bit_at (m * 2 % 2 ^ 64 + cond b 1 0) 0 ≡ cond b 1 0
first_bit b m = bit_at_lowest (m * 2 % 2 ^ 64 + cond b 1 0) ∙ lowest_by b m

pub later_bit : (b : Bool) (m k : ℕ) → k < 63
    → bit_at (m * 2 % 2 ^ 64 + cond b 1 0) (k + 1) ≡ bit_at m k
later_bit b m k small =
    let n : k + 1 ≡ suc k = omega arith in
    let whole : m / 2 ^ 63 * 2 ^ 63 + m % 2 ^ 63 ≡ m = omega arith in
    ap (bit_at (m * 2 % 2 ^ 64 + cond b 1 0)) n
    ∙ (bit_at-suc (m * 2 % 2 ^ 64 + cond b 1 0) k
    ∙ (ap (λ (x : ℕ). bit_at x k) (carried b m)
    ∙ (sym (bit_at_cat_low (m / 2 ^ 63) 63 (m % 2 ^ 63) k small)
    ∙ ap (λ (x : ℕ). bit_at x k) whole)))

-- ---- the last blank of a run

-- a bit of the mask of the blanks
blank_bit : (bytes : List ℕ) (at k : ℕ) → at + 64 ≤ length bytes → k < 64
    → bit_at (mask_l (map is_blank_byte (take 64 (drop at bytes)))) k
    ≡ cond (is_blank_byte (get_or (drop at bytes) k 0)) 1 0
blank_bit bytes at k room small =
    let chunk = take 64 (drop at bytes) in
    bit_mask_l (map is_blank_byte chunk) k
    ∙ ap (λ (b : Bool). cond {A = ℕ} b 1 0)
    (get_or-map is_blank_byte chunk k 0 false (omega (arith, small, lane_long bytes at room))
    ∙ ap is_blank_byte (get_or-take 64 (drop at bytes) k 0 small))

-- bit k of the mask of a byte and those after it
pub run_bit : (last : ℕ) (bytes : List ℕ) (at k m n : ℕ) → at + 64 ≤ length bytes → k < 64
    → n ≡ mask_l (map is_blank_byte (take 64 (drop at bytes)))
    → bit_at m 0 ≡ cond (is_blank_byte last) 1 0
    → ((i : ℕ) → i < 63 → bit_at m (i + 1) ≡ bit_at n i)
    → bit_at m k ≡ cond (is_blank_byte (get_or (last ∷ drop at bytes) k 0)) 1 0
run_bit last bytes at zero m n room small is first later = first
run_bit last bytes at (suc k) m n room small is first later =
    let e : suc k ≡ k + 1 = omega arith in
    ap (bit_at m) e
    ∙ (later k (omega arith)
    ∙ (ap (λ (x : ℕ). bit_at x k) is ∙ blank_bit bytes at k room (omega arith)))

set_is : (b : Bool) (m : ℕ) → m ≡ cond b 1 0 → m ≡ 1 → b ≡ true
set_is true m e h = refl
set_is false m e h = absurd (omega (arith, e, h))

unset_is : (b : Bool) (m : ℕ) → m ≡ cond b 1 0 → m ≡ 0 → b ≡ false
unset_is true m e h = absurd (omega (arith, e, h))
unset_is false m e h = refl

no_blanks : (n found at : ℕ) (xs : List ℕ)
    → ((k : ℕ) → k < n → is_blank_byte (get_or xs k 0) ≡ false) → past_blank found at n xs ≡ found
no_blanks zero found at xs none = refl
no_blanks (suc n) found at [] none = refl
no_blanks (suc n) found at (x ∷ xs) none =
    ap (λ (b : Bool). past_blank (cond b (at + 1) found) (at + 1) n xs) (none 0 (omega arith))
    ∙ no_blanks n found (at + 1) xs (λ k h. none (suc k) (omega (arith, h)))

one_blank : (k n found at : ℕ) (xs : List ℕ) → k < n → k < length xs
    → is_blank_byte (get_or xs k 0) ≡ true
    → ((j : ℕ) → k < j → j < n → is_blank_byte (get_or xs j 0) ≡ false)
    → past_blank found at n xs ≡ at + k + 1
one_blank k zero found at xs h within here none = absurd (omega (arith, h))
one_blank k (suc n) found at [] h within here none = absurd (omega (arith, within))
one_blank zero (suc n) found at (x ∷ xs) h within here none =
    ap (λ (b : Bool). past_blank (cond b (at + 1) found) (at + 1) n xs) here
    ∙ (no_blanks n (at + 1) (at + 1) xs (λ j l. none (suc j) (omega arith) (omega (arith, l)))
    ∙ omega arith)
one_blank (suc k) (suc n) found at (x ∷ xs) h within here none =
    one_blank k n (cond (is_blank_byte x) (at + 1) found) (at + 1) xs (omega (arith, h))
    (omega (arith, within)) here
    (λ j l m. none (suc j) (omega (arith, l)) (omega (arith, m)))
    ∙ omega arith

-- no bit is set
pub none_marked : (m n found at : ℕ) (xs : List ℕ)
    → ((k : ℕ) → k < n → bit_at m k ≡ cond (is_blank_byte (get_or xs k 0)) 1 0) → m ≡ 0
    → found ≡ past_blank found at n xs
none_marked m n found at xs marks none =
    sym (no_blanks n found at xs (λ k h.
    unset_is (is_blank_byte (get_or xs k 0)) (bit_at m k) (marks k h)
    (ap (λ (x : ℕ). bit_at x k) none ∙ bit_at-zero k)))

-- a bit that is set is one of the lowest n
set_low : (m n k : ℕ) → ((j : ℕ) → n ≤ j → bit_at m j ≡ 0) → bit_at m k ≡ 1 → k < n
set_low m n k high set =
    ⊎_elim (λ low. low) (λ more. absurd (omega (arith, high k more, set))) (cases_lt k n)

-- the highest bit that is set
pub last_marked : (m n found at k : ℕ) (xs : List ℕ) → n ≤ length xs
    → ((j : ℕ) → j < n → bit_at m j ≡ cond (is_blank_byte (get_or xs j 0)) 1 0)
    → ((j : ℕ) → n ≤ j → bit_at m j ≡ 0) → bit_at m k ≡ 1
    → ((j : ℕ) → k < j → bit_at m j ≡ 0) → at + k + 1 ≡ past_blank found at n xs
last_marked m n found at k xs within marks high set above =
    let low = set_low m n k high set in
    sym (one_blank k n found at xs low (omega (arith, low, within))
    (set_is (is_blank_byte (get_or xs k 0)) (bit_at m k) (marks k low) set)
    (λ j l h. unset_is (is_blank_byte (get_or xs j 0)) (bit_at m j) (marks j h) (above j l)))
