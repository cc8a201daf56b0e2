-- Words that begin in a chunk, from the masks of its spaces and of those of the bytes before.
use Rattle.std.proofs.Common.{◌≡◌, ℕ, zero, suc, ◌+◌, ◌-◌, ◌*◌, ◌/◌, ◌%◌, ◌^◌, ◌<◌, ◌≤◌, Bool, true}
use Rattle.std.proofs.Common.{false, cond, eqb, leb, List, [], ◌∷◌, length, get_or, take, drop, map}
use Rattle.std.proofs.Common.{refl, ap, ◌∙◌, sym, subst, arith, w64}
use Rattle.std.specs.Prelude.{◌&&◌, ◌||◌, not, min}
use Rattle.std.specs.Int.{bit_at, bit_not}
use Rattle.std.specs.Int.Bits.{bit_and, bit_or, and_lt}
use Rattle.std.specs.Int.RustNames.{count_ones}
use Rattle.std.specs.Simd.Lanes.{mask_l}
use lib.Lanes.{top}
use Rattle.std.proofs.lemmas.Nat.Bits.{bit_at_and, bit_at_not, same_from_bits_below, bit_at_cat_low}
use Rattle.std.proofs.lemmas.Simd.{bit_mask_l, mask_l-mod, mask_l-lt, ones-mask_l_cons, map-map}
use Rattle.std.proofs.lemmas.List.{length-take, length-drop, length-map, take_all, get_or-take}
use Rattle.std.proofs.lemmas.List.{get_or-drop}
use Rattle.command_words.specs.Bytes.{is_space}
use Rattle.commands.specs.Wc.{is_word, words_after}
use Rattle.byte_filters.proofs.lemmas.CountLaws.{words_first, words_few, ends_more, HasBegunUpTo}
use Rattle.byte_filters.proofs.lemmas.CountLaws.{begun_more}
use Rattle.byte_filters.specs.WcSteps.{ends_in_word}

chunk_long : (bytes : List ℕ) (at : ℕ) → at + 64 ≤ length bytes
    → length (take 64 (drop at bytes)) ≡ 64
chunk_long bytes at room = omega (arith, room, length-take 64 (drop at bytes), length-drop at bytes)

maps_same : {A B : Type 0} (f g : A → B) (xs : List A) → ((x : A) → f x ≡ g x) → map f xs ≡ map g xs
maps_same f g [] same = refl
maps_same f g (x ∷ xs) same = ap (λ y. y ∷ map f xs) (same x)
    ∙ ap (λ ys. g x ∷ ys) (maps_same f g xs same)

-- ---- the mask of the spaces

-- what the lanes of a byte have, if it is compared three times
abbrev lane : ℕ → ℕ
lane x = bit_or (bit_and (cond (leb 9 x) 255 0) (cond (leb x 13) 255 0)) (cond (eqb x 32) 255 0)

top_of : (a b c : Bool) → top 7 (bit_or (bit_and (cond a 255 0) (cond b 255 0)) (cond c 255 0))
    ≡ ((a && b) || c)
top_of true true true = refl
top_of true true false = refl
top_of true false true = refl
top_of true false false = refl
top_of false true true = refl
top_of false true false = refl
top_of false false true = refl
top_of false false false = refl

pub spaces_masked : (bytes : List ℕ) (at : ℕ) (lanes : List ℕ) → at + 64 ≤ length bytes
    → lanes ≡ map lane (take 64 (drop at bytes))
    → mask_l (map (top 7) lanes) % 2 ^ 64 ≡ mask_l (map is_space (take 64 (drop at bytes)))
spaces_masked bytes at lanes room e =
    let chunk = take 64 (drop at bytes) in
    ap (λ (zs : List ℕ). mask_l (map (top 7) zs) % 2 ^ 64) e
    ∙ (ap (λ (ms : List Bool). mask_l ms % 2 ^ 64) (map-map (top 7) lane chunk
    ∙ maps_same (λ x. top 7 (lane x)) is_space chunk
    (λ x. top_of (leb 9 x) (leb x 13) (eqb x 32)))
    ∙ mask_l-mod (map is_space chunk) 64
    (omega (arith, length-map chunk is_space, chunk_long bytes at room)))

-- ---- the words

-- for each byte whether a word begins there
abbrev starts_l : Bool → List ℕ → List Bool
starts_l before [] = []
starts_l before (x ∷ xs) = (not before && is_word x) ∷ starts_l (is_word x) xs

started : (before : Bool) (xs : List ℕ) → count_ones (mask_l (starts_l before xs))
    ≡ words_after before xs
unfolding count_ones
started before [] = refl
started before (x ∷ xs) =
    ones-mask_l_cons (not before && is_word x) (starts_l (is_word x) xs)
    ∙ (ap (λ (k : ℕ). cond {A = ℕ} (not before && is_word x) 1 0 + k) (started (is_word x) xs)
    ∙ sym (words_first before x xs))

not_not : (b : Bool) → not (not b) ≡ b
not_not true = refl
not_not false = refl

length-starts : (before : Bool) (xs : List ℕ) → length (starts_l before xs) ≡ length xs
length-starts before [] = refl
length-starts before (x ∷ xs) = ap (λ (n : ℕ). suc n) (length-starts (is_word x) xs)

-- a word begins after a byte that is in no word, at one that is in no space
start_item : (before : Bool) (xs : List ℕ) (k : ℕ) → k < length xs
    → get_or (starts_l before xs) k false
    ≡ (get_or (not before ∷ map is_space xs) k false && not (get_or (map is_space xs) k false))
start_item before [] k h = absurd (omega (arith, h))
start_item before (x ∷ xs) zero h = refl
start_item before (x ∷ xs) (suc k) h =
    start_item (is_word x) xs k (omega (arith, h))
    ∙ ap (λ (b : Bool). get_or (b ∷ map is_space xs) k false && not
    (get_or (map is_space xs) k false)) (not_not (is_space x))

both_bits : (a b : Bool) → min (cond a 1 0) (1 - cond b 1 0) ≡ cond (a && not b) 1 0
both_bits true true = refl
both_bits true false = refl
both_bits false true = refl
both_bits false false = refl

-- the lower bits of a number
bit_of_rest : (n i : ℕ) → i < 64 → bit_at (n % 2 ^ 64) i ≡ bit_at n i
bit_of_rest n i h =
    let whole : n / 2 ^ 64 * 2 ^ 64 + n % 2 ^ 64 ≡ n = omega arith in
    sym (bit_at_cat_low (n / 2 ^ 64) 64 (n % 2 ^ 64) i h) ∙ ap (λ (k : ℕ). bit_at k i) whole

carried : (b : Bool) (n : ℕ) → n * 2 % 2 ^ 64 + cond b 1 0 ≡ (cond b 1 0 + 2 * n) % 2 ^ 64
carried true n = omega arith
carried false n = omega arith

-- the mask of the words that begin, from that of the spaces
start_mask : (before : Bool) (xs : List ℕ) (m n : ℕ) → length xs ≡ 64 → n ≡ mask_l (map is_space xs)
    → m ≡ n * 2 % 2 ^ 64 + cond (not before) 1 0
    → bit_and m (bit_not w64 n) ≡ mask_l (starts_l before xs)
start_mask before xs m n long e f =
    let spaces = map is_space xs in
    let ms = starts_l before xs in
    let whole : m ≡ mask_l (not before ∷ spaces) % 2 ^ 64 = f
    ∙ (carried (not before) n
    ∙ ap (λ (k : ℕ). (cond {A = ℕ} (not before) 1 0 + 2 * k) % 2 ^ 64) e) in
    let small : mask_l ms < 2 ^ 64 =
    omega (arith, ap (λ (k : ℕ). 2 ^ k) (length-starts before xs ∙ long), mask_l-lt ms) in
    let fits : n < 2 ^ 64 =
    omega (arith, e, ap (λ (k : ℕ). 2 ^ k) (length-map xs is_space ∙ long), mask_l-lt spaces) in
    let fits' : m < 2 ^ 64 = omega (arith, whole) in
    let clear : bit_not w64 n < 2 ^ 64 = omega arith in
    same_from_bits_below 64 (bit_and m (bit_not w64 n)) (mask_l ms)
    (and_lt 64 m (bit_not w64 n) fits' clear) small (λ i h.
    bit_at_and m (bit_not w64 n) i
    ∙ (ap (min (bit_at m i)) (bit_at_not w64 n i fits h)
    ∙ (ap (λ (k : ℕ). min k (1 - bit_at n i)) (ap (λ (k : ℕ). bit_at k i) whole
    ∙ (bit_of_rest (mask_l (not before ∷ spaces)) i h ∙ bit_mask_l (not before ∷ spaces) i))
    ∙ (ap (λ (k : ℕ). min (cond (get_or (not before ∷ spaces) i false) 1 0) (1 - k))
    (ap (λ (k : ℕ). bit_at k i) e ∙ bit_mask_l spaces i)
    ∙ (both_bits (get_or (not before ∷ spaces) i false) (get_or spaces i false)
    ∙ sym (bit_mask_l ms i ∙ ap (λ (b : Bool). cond {A = ℕ} b 1 0)
    (start_item before xs i (omega (arith, h, long)))))))))

pub starts_counted : (before : Bool) (bytes : List ℕ) (at m n : ℕ) → at + 64 ≤ length bytes
    → n ≡ mask_l (map is_space (take 64 (drop at bytes)))
    → m ≡ n * 2 % 2 ^ 64 + cond (not before) 1 0
    → count_ones (bit_and m (bit_not w64 n)) ≡ words_after before (take 64 (drop at bytes))
starts_counted before bytes at m n room e f =
    let here = take 64 (drop at bytes) in
    ap count_ones (start_mask before here m n (chunk_long bytes at room) e f) ∙ started before here

pub starts_few : (b : Bool) (bytes : List ℕ) (at k : ℕ)
    → k ≡ words_after b (take 64 (drop at bytes)) → k ≤ 64
starts_few b bytes at k e =
    omega (arith, e, words_few b (take 64 (drop at bytes)), length-take 64 (drop at bytes))

-- ---- the words of a stream, a chunk more
pub begun_chunk : (before : Bool) (bytes : List ℕ) (at words here : ℕ) (last next : Bool)
    → at + 64 ≤ length bytes → here ≡ words_after last (take 64 (drop at bytes))
    → next ≡ is_word (get_or bytes (at + 63) 0) → HasBegunUpTo before bytes at words last
    → HasBegunUpTo before bytes (at + 64) (words + here) next
begun_chunk before bytes at words here last next room counted ends c =
    let chunk = take 64 (drop at bytes) in
    let long = chunk_long bytes at room in
    let item : get_or bytes (at + 63) 0 ≡ get_or chunk 63 0 =
    sym (get_or-take 64 (drop at bytes) 63 0 (omega arith) ∙ get_or-drop at bytes 63 0) in
    let n : 63 + 1 ≡ 64 = refl in
    let now : next ≡ ends_in_word last chunk = ends
    ∙ (ap is_word item ∙ (ends_more last chunk 63 (omega (arith, long))
    ∙ ap (ends_in_word last) (take_all 64 chunk (omega (arith, long))))) in
    subst (λ (m : ℕ). HasBegunUpTo before bytes (at + m) (words + here) next) long
    (begun_more before bytes (drop at bytes) chunk at words 64 here last next refl refl counted
    now c)
