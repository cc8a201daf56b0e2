-- Chunks in which no byte is the same as the next one.
use Rattle.std.proofs.Common.{◌≡◌, ℕ, suc, ◌+◌, ◌%◌, ◌<◌, ◌≤◌, ◌^◌, Bool, true, false, cond, eqb}
use Rattle.std.proofs.Common.{List, [], ◌∷◌, length, get_or, take, drop, refl, ap, ◌∙◌, sym, arith}
use Rattle.std.specs.Prelude.{◌&&◌}
use Rattle.std.specs.Int.{bit_at}
use Rattle.std.specs.Simd.Lanes.{mask_l, zip2}
use Rattle.std.proofs.lemmas.Simd.{bit_mask_l, mask_l-mod, get_or-zip2, length-zip2}
use Rattle.std.proofs.lemmas.List.{length-take, length-drop, get_or-take, get_or-drop}
use Rattle.lanes.specs.inner.Doubles.{HasNoDouble}
use Rattle.lanes.proofs.lemmas.MarkLaws.{unset_is}

-- the byte at a place of a chunk
chunk_item : (bytes : List ℕ) (at k : ℕ) → k < 64
    → get_or (take 64 (drop at bytes)) k 0 ≡ get_or bytes (at + k) 0
chunk_item bytes at k small = get_or-take 64 (drop at bytes) k 0 small ∙ get_or-drop at bytes k 0

-- a bit of the mask of two chunks that are compared
pub same_bit : (bytes : List ℕ) (at k : ℕ) → at + 65 ≤ length bytes → k < 64
    → bit_at (mask_l (zip2 eqb (take 64 (drop at bytes)) (take 64 (drop (at + 1) bytes)))) k
    ≡ cond (eqb (get_or bytes (at + k) 0) (get_or bytes (at + k + 1) 0)) 1 0
same_bit bytes at k room small =
    let xs = take 64 (drop at bytes) in
    let ys = take 64 (drop (at + 1) bytes) in
    let long : length xs ≡ 64 =
    omega (arith, room, length-take 64 (drop at bytes), length-drop at bytes) in
    let long2 : length ys ≡ 64 =
    omega (arith, room, length-take 64 (drop (at + 1) bytes), length-drop (at + 1) bytes) in
    let n : at + 1 + k ≡ at + k + 1 = omega arith in
    bit_mask_l (zip2 eqb xs ys) k
    ∙ (ap (λ (b : Bool). cond {A = ℕ} b 1 0)
    (get_or-zip2 eqb xs ys k 0 0 false (omega arith) (omega arith))
    ∙ (ap (λ (x : ℕ). cond {A = ℕ} (eqb x (get_or ys k 0)) 1 0) (chunk_item bytes at k small)
    ∙ (ap (λ (y : ℕ). cond {A = ℕ} (eqb (get_or bytes (at + k) 0) y) 1 0)
    (chunk_item bytes (at + 1) k small)
    ∙ ap (λ (j : ℕ). cond {A = ℕ} (eqb (get_or bytes (at + k) 0) (get_or bytes j 0)) 1 0) n)))

-- the mask of two chunks that are compared
pub same_mask : (bytes : List ℕ) (at : ℕ) → at + 65 ≤ length bytes
    → mask_l (zip2 eqb (take 64 (drop at bytes)) (take 64 (drop (at + 1) bytes))) % 2 ^ 64
    ≡ mask_l (zip2 eqb (take 64 (drop at bytes)) (take 64 (drop (at + 1) bytes)))
same_mask bytes at room =
    let xs = take 64 (drop at bytes) in
    let ys = take 64 (drop (at + 1) bytes) in
    let long : length xs ≡ 64 =
    omega (arith, room, length-take 64 (drop at bytes), length-drop at bytes) in
    let long2 : length ys ≡ 64 =
    omega (arith, room, length-take 64 (drop (at + 1) bytes), length-drop (at + 1) bytes) in
    let both : length xs ≡ length ys = long ∙ sym long2 in
    mask_l-mod (zip2 eqb xs ys) 64 (omega (arith, length-zip2 eqb xs ys both, long))

not_both : (a b : Bool) → (a ≡ true → b ≡ false) → (a && b) ≡ false
not_both true b h = h refl
not_both false b h = refl

-- the same, told place by place
no_double : (p : ℕ → Bool) (xs : List ℕ)
    → ((k : ℕ) → suc k < length xs
    → (p (get_or xs k 0) && eqb (get_or xs k 0) (get_or xs (suc k) 0)) ≡ false) → HasNoDouble p xs
no_double p [] h = tt
no_double p (x ∷ []) h = tt
no_double p (x ∷ y ∷ ys) h =
    (h 0 (omega arith), no_double p (y ∷ ys) (λ k g. h (suc k) (omega (arith, g))))

-- no bit is set in both masks
pub none_doubled : (p : ℕ → Bool) (bytes : List ℕ) (at m s : ℕ) → at + 65 ≤ length bytes
    → ((k : ℕ) → k < 64 → bit_at m k ≡ cond (p (get_or bytes (at + k) 0)) 1 0)
    → ((k : ℕ) → k < 64
    → bit_at s k ≡ cond (eqb (get_or bytes (at + k) 0) (get_or bytes (at + k + 1) 0)) 1 0)
    → ((k : ℕ) → bit_at m k ≡ 1 → bit_at s k ≡ 0) → HasNoDouble p (take 64 (drop at bytes))
none_doubled p bytes at m s room marks same apart =
    let chunk = take 64 (drop at bytes) in
    no_double p chunk (λ k h.
    let long : length chunk ≡ 64 =
    omega (arith, room, length-take 64 (drop at bytes), length-drop at bytes) in
    let small : suc k < 64 = omega (arith, h, long) in
    let n : at + k + 1 ≡ at + suc k = omega arith in
    let here = chunk_item bytes at k (omega arith) in
    let next = chunk_item bytes at (suc k) small in
    not_both (p (get_or chunk k 0)) (eqb (get_or chunk k 0) (get_or chunk (suc k) 0)) (λ yes.
    let set : bit_at m k ≡ 1 = marks k (omega arith)
    ∙ ap (λ (b : Bool). cond {A = ℕ} b 1 0) (ap p (sym here) ∙ yes) in
    ap (λ (x : ℕ). eqb x (get_or chunk (suc k) 0)) here
    ∙ (ap (eqb (get_or bytes (at + k) 0)) (next ∙ ap (λ (j : ℕ). get_or bytes j 0) (sym n))
    ∙ unset_is (eqb (get_or bytes (at + k) 0) (get_or bytes (at + k + 1) 0)) (bit_at s k)
    (same k (omega arith)) (apart k set))))
