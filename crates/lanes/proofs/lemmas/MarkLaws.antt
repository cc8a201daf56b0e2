-- What the bits of a mask say of the bytes of a chunk.
use Rattle.std.proofs.Common.{◌≡◌, ◌≢◌, ℕ, zero, suc, [], ◌∷◌, ◌++◌, ◌+◌, ◌-◌, ◌^◌, ◌<◌, ◌≤◌, Bool}
use Rattle.std.proofs.Common.{true, false, cond, eqb, List, length, get_or, take, drop, map, refl}
use Rattle.std.proofs.Common.{ap, ◌∙◌, sym, arith, w64}
use Rattle.std.specs.Simd.Lanes.{mask_l}
use Rattle.std.specs.Int.{bit_at}
use Rattle.std.proofs.lemmas.Nat.Bits.{bit_at-trailing_zeros}
use Rattle.std.proofs.lemmas.Simd.{bit_mask_l, mask_l-lt}
use Rattle.std.proofs.lemmas.List.{length-take, length-drop, length-map, get_or-take, get_or-drop}
use Rattle.std.proofs.lemmas.List.{get_or_at, take_at}
use Rattle.std.specs.List.{All}
use Rattle.std.proofs.lemmas.List.Elements.{All-from_get_or}
use Rattle.std.proofs.lemmas.List.{take-append-drop, drop-drop, drop_more}
use Rattle.std.proofs.lemmas.Bool.{eqb-true, eq-eqb}
use Rattle.machine.specs.inner.Places.{FirstFrom}
use lib.Count.{count_trailing_zeros}

-- the item at a place of a mapped list
get_or-map_within : (p : ℕ → Bool) (xs : List ℕ) (k : ℕ) → k < length xs
    → get_or (map p xs) k false ≡ p (get_or xs k 0)
get_or-map_within p [] k h = absurd (omega (arith, h))
get_or-map_within p (x ∷ xs) zero h = refl
get_or-map_within p (x ∷ xs) (suc k) h = get_or-map_within p xs k (omega arith)

-- a bit of the mask of a chunk, if the chunk reaches there
pub bit_by : (p : ℕ → Bool) (bytes : List ℕ) (at k : ℕ) → k < 64 → at + k < length bytes
    → bit_at (mask_l (map p (take 64 (drop at bytes)))) k ≡ cond (p (get_or bytes (at + k) 0)) 1 0
bit_by p bytes at k small within =
    let chunk = take 64 (drop at bytes) in
    bit_mask_l (map p chunk) k
    ∙ (ap (λ (b : Bool). cond b 1 0)
    (get_or-map_within p chunk k
    (omega (arith, small, within, length-take 64 (drop at bytes), length-drop at bytes)))
    ∙ ap (λ (x : ℕ). cond (p x) 1 0) (get_or-take 64 (drop at bytes) k 0 small
    ∙ get_or-drop at bytes k 0))

-- the same of one byte
pub bit_is : (byte : ℕ) (bytes : List ℕ) (at k : ℕ) → k < 64 → at + k < length bytes
    → bit_at (mask_l (map (λ x. eqb x byte) (take 64 (drop at bytes)))) k
    ≡ cond (eqb (get_or bytes (at + k) 0) byte) 1 0
bit_is byte bytes at k small within = bit_by (λ x. eqb x byte) bytes at k small within

pub set_is : (b : Bool) (m : ℕ) → m ≡ cond b 1 0 → m ≡ 1 → b ≡ true
set_is true m e h = refl
set_is false m e h = absurd (omega (arith, e, h))

pub unset_is : (b : Bool) (m : ℕ) → m ≡ cond b 1 0 → m ≡ 0 → b ≡ false
unset_is true m e h = absurd (omega (arith, e, h))
unset_is false m e h = refl

-- the bytes before and after a place of the byte
pub split_here : (bytes : List ℕ) (byte from k : ℕ) → from ≤ k → k < length bytes
    → eqb (get_or bytes k 0) byte ≡ true
    → drop from bytes ≡ take (k - from) (drop from bytes) ++ byte ∷ drop (k + 1) bytes
split_here bytes byte from k after within here =
    let n : from + (k - from) ≡ k = omega arith in
    let hay = drop from bytes in
    sym (take-append-drop (k - from) hay)
    ∙ ap (λ (x : List ℕ). take (k - from) hay ++ x)
    (drop-drop (k - from) from bytes
    ∙ (ap (λ (j : ℕ). drop j bytes) n
    ∙ (drop_more bytes k 0 within
    ∙ ap (λ (x : ℕ). x ∷ drop (k + 1) bytes) (eqb-true (get_or bytes k 0) byte here))))

-- the first place of a byte, told place by place
pub first_at : (bytes : List ℕ) (byte from k : ℕ) → from ≤ k → k < length bytes
    → eqb (get_or bytes k 0) byte ≡ true
    → ((j : ℕ) → from ≤ j → j < k → eqb (get_or bytes j 0) byte ≡ false)
    → FirstFrom bytes byte from k
first_at bytes byte from k after within here none =
    let hay = drop from bytes in
    record {
      after = after;
      within = within;
      none_before = All-from_get_or (λ x. eqb x byte ≡ false) (take (k - from) hay) 0 (λ j h.
          let small : j < k - from = omega (arith, h, length-take (k - from) hay) in
          ap (λ (x : ℕ). eqb x byte) (get_or-take (k - from) hay j 0 small
          ∙ get_or-drop from bytes j 0) ∙ none (from + j) (omega arith) (omega arith));
      here = split_here bytes byte from k after within here;
    }

-- the byte is at its first place
pub first_is : (bytes : List ℕ) (byte from k : ℕ) → FirstFrom bytes byte from k
    → eqb (get_or bytes k 0) byte ≡ true
first_is bytes byte from k f =
    let hay = drop from bytes in
    let front = take (k - from) hay in
    let n : from + (k - from) ≡ k = omega (arith, f.after) in
    let long : length front ≡ k - from =
    omega (arith, f.after, f.within, length-take (k - from) hay, length-drop from bytes) in
    ap (λ (j : ℕ). eqb (get_or bytes j 0) byte) (sym n)
    ∙ (ap (λ (x : ℕ). eqb x byte) (sym (get_or-drop from bytes (k - from) 0)
    ∙ (ap (λ (xs : List ℕ). get_or xs (k - from) 0) f.here
    ∙ get_or_at front byte (drop (k + 1) bytes) 0 (k - from) long))
    ∙ eq-eqb byte byte refl)

-- the byte is nowhere from a place on, told place by place
pub none_at : (bytes : List ℕ) (byte from : ℕ)
    → ((j : ℕ) → from ≤ j → j < length bytes → eqb (get_or bytes j 0) byte ≡ false)
    → All (λ x. eqb x byte ≡ false) (drop from bytes)
none_at bytes byte from none =
    All-from_get_or (λ x. eqb x byte ≡ false) (drop from bytes) 0 (λ j h.
    ap (λ (x : ℕ). eqb x byte) (get_or-drop from bytes j 0)
    ∙ none (from + j) (omega arith) (omega (arith, h, length-drop from bytes)))

-- the lowest bit of the mask of a chunk shows the first such byte
pub near_first : (bytes : List ℕ) (byte at m : ℕ) → at + 64 ≤ length bytes
    → m ≡ mask_l (map (λ x. eqb x byte) (take 64 (drop at bytes))) → m ≢ 0
    → FirstFrom bytes byte at (at + count_trailing_zeros 64 m)
near_first bytes byte at m room shows some =
    let chunk = take 64 (drop at bytes) in
    let long : length chunk ≡ 64 =
    omega (arith, room, length-take 64 (drop at bytes), length-drop at bytes) in
    let fits : m < 2 ^ 64 =
    omega (
      arith,
      ap (λ (n : ℕ). 2 ^ n) (length-map chunk (λ x. eqb x byte) ∙ long),
      shows,
      mask_l-lt (map (λ x. eqb x byte) chunk),
    ) in
    let r = count_trailing_zeros 64 m in
    let lowest = bit_at-trailing_zeros w64 m (omega (arith, some)) fits in
    let bit : (k : ℕ) → k < 64 → bit_at m k ≡ cond (eqb (get_or bytes (at + k) 0) byte) 1 0 =
    λ k h. ap (λ (x : ℕ). bit_at x k) shows ∙ bit_is byte bytes at k h (omega arith) in
    let small : r < 64 = lowest.0 in
    first_at bytes byte at (at + r) (omega arith) (omega arith)
    (set_is (eqb (get_or bytes (at + r) 0) byte) (bit_at m r) (bit r small) lowest.1)
    (λ j low high.
    let n : at + (j - at) ≡ j = omega arith in
    ap (λ (x : ℕ). eqb (get_or bytes x 0) byte) (sym n)
    ∙ unset_is (eqb (get_or bytes (at + (j - at)) 0) byte) (bit_at m (j - at))
    (bit (j - at) (omega arith)) (lowest.2 (j - at) (omega arith)))

-- the same of few bytes, in a chunk that begins with them
pub few_bit : (byte m : ℕ) (bytes few : List ℕ) → length bytes < 64 → length few ≡ 64
    → take (length bytes) few ≡ bytes → m ≡ mask_l (map (λ x. eqb x byte) (take 64 (drop 0 few)))
    → (k : ℕ) → k < length bytes → bit_at m k ≡ cond (eqb (get_or bytes k 0) byte) 1 0
few_bit byte m bytes few short whole front e k h =
    let zero_more : 0 + k ≡ k = omega arith in
    ap (λ (x : ℕ). bit_at x k) e
    ∙ (bit_is byte few 0 k (omega arith) (omega (arith, whole))
    ∙ (ap (λ (j : ℕ). cond {A = ℕ} (eqb (get_or few j 0) byte) 1 0) zero_more
    ∙ ap (λ (x : ℕ). cond {A = ℕ} (eqb x byte) 1 0) (sym (get_or-take (length bytes) few k 0 h)
    ∙ ap (λ (x : List ℕ). get_or x k 0) front)))

pub front_is : (bytes few old : List ℕ) → few ≡ bytes ++ drop (length bytes) old
    → take (length bytes) few ≡ bytes
front_is bytes few old e = ap (take (length bytes)) e
    ∙ take_at bytes (drop (length bytes) old) (length bytes) refl
