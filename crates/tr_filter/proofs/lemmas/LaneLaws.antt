-- Sixteen bytes, lane by lane.
use Rattle.std.proofs.Common.{◌≡◌, ℕ, zero, suc, ◌+◌, ◌*◌, ◌/◌, ◌%◌, ◌^◌, ◌<◌, ◌≤◌, Bool, true}
use Rattle.std.proofs.Common.{false, cond, eqb, ltb, List, [], ◌∷◌, ◌++◌, map, length, get_or, take}
use Rattle.std.proofs.Common.{drop, replicate, bit_and, refl, sym, ap, ◌∙◌, arith, w8, Fits}
use Rattle.std.proofs.Common.{append_assoc, length-append}
use Rattle.std.proofs.lemmas.Bool.{eqb-true, ltb-true}
use Rattle.std.proofs.lemmas.List.{get_or-map, length-map, ext_get_or, map-append, take-append-drop}
use Rattle.std.proofs.lemmas.List.{take-map, take-take, length-take, drop-drop, get_or-take}
use Rattle.std.proofs.lemmas.List.Elements.{filter-append}
use Rattle.std.proofs.lemmas.List.Sums.{length-filter, count_by-le-length}
use Rattle.std.proofs.lemmas.Nat.{and_le_r, and_mask}
use Rattle.std.proofs.lemmas.Simd.{map-map, Each1-all, Each1-weaker, Each1-zip2, Each2-splat}
use Rattle.std.proofs.lemmas.Simd.{Each1-get_or, Each1-chunk, below_from_Fits, length-chunk, swz_l}
use Rattle.std.proofs.lemmas.Simd.{SwzOk, SwzOk-from_below, length-swz_l, get_or-swz_l_below}
use Rattle.std.proofs.lemmas.Simd.{ones-mask_l, mask_l-lt, pick_l_left, pick_l-range_with_len}
use Rattle.std.proofs.lemmas.Simd.{put_chunk_is, zip2_splat}
use Rattle.std.proofs.lemmas.Slice.{drop-append-drop}
use Rattle.std.proofs.Math.Nat.{mul_assoc, pow-succ'}
use Rattle.std.proofs.Math.Seq.{take-append-add}
use Rattle.std.specs.Int.RustNames.{count_ones}
use Rattle.std.specs.List.{filter, range_with_len}
use Rattle.std.specs.Prelude.{◌&&◌}
use Rattle.std.specs.Simd.Lanes.{zip2, mask_l, Each1, chunk, put_chunk, pick_l, all_below}
use Rattle.tr_filter.specs.declared.places.TheConstants.{PLACES}

-- ---- what is looked up

-- a table of sixteen, read at places below 16
pub swz_is : (xs js : List ℕ) → length js ≡ 16 → Each1 (λ j. j < 16) js
    → swz_l w8 16 xs 0 js ≡ map (λ j. get_or xs j 0) js
swz_is xs js long small =
    ext_get_or 0 _ _ (length-swz_l w8 16 xs 0 js ∙ sym (length-map js (λ j. get_or xs j 0))) (λ i h.
    let within : i < length js = omega (arith, length-swz_l w8 16 xs 0 js) in
    let below : get_or js i 0 < 16 = Each1-get_or (λ j. j < 16) js i 0 within small in
    let same : 16 * ((0 + i) / 16) + get_or js i 0 ≡ get_or js i 0 = omega (arith, within, long) in
    get_or-swz_l_below w8 16 xs 0 js i within below
    ∙ (ap (λ (k : ℕ). get_or xs k 0) same
    ∙ sym (get_or-map (λ j. get_or xs j 0) js i 0 0 within)))

pub swz_ok : (js : List ℕ) → length js ≡ 16 → Each1 (λ j. j < 16) js → SwzOk w8 16 16 0 js
swz_ok js long small = SwzOk-from_below w8 16 1 16 0 js refl (omega (arith, long)) small

-- a table read at a place for each byte
pub looked_up : (table v js : List ℕ) (g : ℕ → ℕ) → length v ≡ 16 → js ≡ map g v
    → Each1 (λ j. j < 16) js → swz_l w8 16 table 0 js ≡ map (λ x. get_or table (g x) 0) v
looked_up table v js g long is small =
    let js_long : length js ≡ 16 = ap length is ∙ (length-map v g ∙ long) in
    swz_is table js js_long small ∙ (ap (map (λ j. get_or table j 0)) is
    ∙ map-map (λ j. get_or table j 0) g v)

pub low_small : (v : List ℕ) → length v ≡ 16
    → Each1 (λ j. j < 16) (zip2 bit_and v (replicate 16 15))
low_small v long = Each1-zip2 bit_and (λ j. j < 16) v (replicate 16 15)
    (Each2-splat (λ a b. bit_and a b < 16) v 16 15
    (Each1-all (λ a. bit_and a 15 < 16) (λ a. omega (arith, and_le_r a 15)) v))

-- the low halves
pub lows : (v : List ℕ) → length v ≡ 16 → zip2 bit_and v (replicate 16 15) ≡ map (λ x. x % 16) v
lows v long = zip2_splat bit_and v 16 15 long ∙ (λ i. map (λ x. and_mask x 4 i) v)

abbrev pub down : ℕ → ℕ → ℕ
down a b = a / 2 ^ b

pub high_small : (v : List ℕ) → Each1 (Fits w8) v
    → Each1 (λ j. j < 16) (zip2 down v (replicate 16 4))
high_small v fits =
    Each1-zip2 down (λ j. j < 16) v (replicate 16 4) (Each2-splat (λ a b. down a b < 16) v 16 4
    (Each1-weaker (λ a. a < 256) (λ a. a / 16 < 16) (λ a h. omega arith) v
    (below_from_Fits w8 v fits)))

-- each lane is a byte
pub lane_fits : (v : List ℕ) (k : ℕ) → Each1 (Fits w8) v → get_or v k 0 < 256
lane_fits [] k h = omega arith
lane_fits (x ∷ xs) zero h = h.0.fits
lane_fits (x ∷ xs) (suc k) h = lane_fits xs k h.1

-- the first eight of sixteen
pub first_eight : (v : List ℕ) → length v ≡ 16 → pick_l 0 (v ++ v) (range_with_len 0 8) ≡ take 8 v
first_eight v long = pick_l_left 0 v v 16 (range_with_len 0 8) long tt
    ∙ pick_l-range_with_len 0 v 0 8 (omega (arith, long))

-- ---- the places of the bits of a mask

-- where the true ones are, counted from k
abbrev chosen : List Bool → ℕ → List ℕ
chosen [] k = []
chosen (m ∷ ms) k = cond m (k ∷ chosen ms (k + 1)) (chosen ms (k + 1))

abbrev starts : List ℕ → List ℕ → Bool
starts [] ys = true
starts (x ∷ xs) [] = false
starts (x ∷ xs) (y ∷ ys) = eqb x y && starts xs ys

both : (a b : Bool) → (a && b) ≡ true → (a ≡ true) × (b ≡ true)
both true b h = (refl, h)
both false b h = absurd (cc)

start_of : (xs ys : List ℕ) → starts xs ys ≡ true → take (length xs) ys ≡ xs
start_of [] ys h = refl
start_of (x ∷ xs) [] h = absurd (cc)
start_of (x ∷ xs) (y ∷ ys) h =
    let e = both (eqb x y) (starts xs ys) h in
    ap (λ (z : List ℕ). y ∷ z) (start_of xs ys e.1)
    ∙ ap (λ (z : ℕ). z ∷ xs) (sym (eqb-true x y e.0))

abbrev every_mask : ℕ → (List Bool → Bool) → Bool
every_mask zero f = f []
every_mask (suc n) f = every_mask n (λ ms. f (true ∷ ms)) && every_mask n (λ ms. f (false ∷ ms))

mask_of : (n : ℕ) (f : List Bool → Bool) (ms : List Bool) → every_mask n f ≡ true → length ms ≡ n
    → f ms ≡ true
mask_of zero f [] h e = h
mask_of zero f (m ∷ ms) h e = absurd (omega arith)
mask_of (suc n) f [] h e = absurd (omega arith)
mask_of (suc n) f (true ∷ ms) h e = mask_of n (λ ms. f (true ∷ ms)) ms
    (both (every_mask n (λ ms. f (true ∷ ms))) _ h).0 (omega arith)
mask_of (suc n) f (false ∷ ms) h e = mask_of n (λ ms. f (false ∷ ms)) ms
    (both (every_mask n (λ ms. f (true ∷ ms))) _ h).1 (omega arith)

abbrev has_row : List Bool → Bool
has_row ms = starts (chosen ms 0) (drop (8 * mask_l ms) PLACES)

all_rows : every_mask 8 has_row ≡ true
all_rows = refl

-- the bytes at these places are those that pass
chosen_pass : (p : ℕ → Bool) (xs ys : List ℕ) (k : ℕ)
    → ((j : ℕ) → j < length ys → get_or xs (k + j) 0 ≡ get_or ys j 0)
    → map (λ j. get_or xs j 0) (chosen (map p ys) k) ≡ filter p ys
chosen_pass p xs [] k same = refl
chosen_pass p xs (y ∷ ys) k same =
    let n : k + 0 ≡ k = omega arith in
    let here : get_or xs k 0 ≡ y = ap (λ (i : ℕ). get_or xs i 0) (sym n) ∙ same 0 (omega arith) in
    let later = chosen_pass p xs ys (k + 1) (λ j h. let q : k + 1 + j ≡ k + suc j = omega arith in
    ap (λ (i : ℕ). get_or xs i 0) q ∙ same (suc j) (omega (arith, h))) in
    by_case (p y) here later
  where
    by_case : (b : Bool) → get_or xs k 0 ≡ y
        → map (λ j. get_or xs j 0) (chosen (map p ys) (k + 1)) ≡ filter p ys
        → map (λ j. get_or xs j 0)
        (cond b (k ∷ chosen (map p ys) (k + 1)) (chosen (map p ys) (k + 1)))
        ≡ cond b (y ∷ filter p ys) (filter p ys)
    by_case true e l = ap (λ (z : ℕ). z ∷ map (λ j. get_or xs j 0) (chosen (map p ys) (k + 1))) e
        ∙ ap (λ (z : List ℕ). y ∷ z) l
    by_case false e l = l

small_by : (js : List ℕ) → all_below 8 js ≡ true → Each1 (λ j. j < 8) js
small_by [] h = tt
small_by (j ∷ js) h =
    let e = both (ltb j 8) (all_below 8 js) h in
    (ltb-true j 8 e.0, small_by js e.1)

all_small : Each1 (λ j. j < 8) PLACES
all_small = small_by PLACES refl

-- sixteen places from the row of a mask on
pub row_long : (m : ℕ) → m < 256 → length (chunk (8 * m) 16 PLACES) ≡ 16
row_long m small = length-chunk (8 * m) 16 PLACES (omega arith)

pub row_small : (m : ℕ) → Each1 (λ j. j < 16) (chunk (8 * m) 16 PLACES)
row_small m = Each1-weaker (λ j. j < 8) (λ j. j < 16) (λ j h. omega arith) (chunk (8 * m) 16 PLACES)
    (Each1-chunk (λ j. j < 8) (8 * m) 16 PLACES all_small)

-- what is read at the places of a mask
pub front_is : (p : ℕ → Bool) (lanes : List ℕ) (m : ℕ) → length lanes ≡ 16 → m < 256
    → m ≡ mask_l (map p (take 8 lanes))
    → take (count_ones m) (take 8 (swz_l w8 16 lanes 0 (chunk (8 * m) 16 PLACES)))
    ≡ filter p (take 8 lanes)
front_is p lanes m long small is =
    let eight = take 8 lanes in
    let ms = map p eight in
    let read = λ (j : ℕ). get_or lanes j 0 in
    let row = chunk (8 * m) 16 PLACES in
    let eight_long : length eight ≡ 8 = omega (arith, long, length-take 8 lanes) in
    let ms_long : length ms ≡ 8 = length-map eight p ∙ eight_long in
    let left : map read (chosen ms 0) ≡ filter p eight =
    chosen_pass p lanes eight 0 (λ j h. let low : j < 8 = omega (arith, h, eight_long) in
    let n : 0 + j ≡ j = omega arith in ap read n ∙ sym (get_or-take 8 lanes j 0 low)) in
    let count : count_ones m ≡ length (chosen ms 0) = ap count_ones is
    ∙ (ones-mask_l p eight ∙ (sym (length-filter p eight)
    ∙ (ap length (sym left) ∙ length-map (chosen ms 0) read))) in
    let few : count_ones m ≤ 8 =
    omega (
      arith,
      count,
      ap length left,
      length-map (chosen ms 0) read,
      length-filter p eight,
      count_by-le-length p eight,
      eight_long,
    ) in
    let start : take (length (chosen ms 0)) (drop (8 * mask_l ms) PLACES) ≡ chosen ms 0 =
    start_of (chosen ms 0) (drop (8 * mask_l ms) PLACES)
    (mask_of 8 has_row ms all_rows ms_long) in
    let places : take (count_ones m) row ≡ chosen ms 0 =
    take-take (count_ones m) 16 (drop (8 * m) PLACES) (omega (arith, few))
    ∙ (ap (λ (k : ℕ). take (count_ones m) (drop (8 * k) PLACES)) is
    ∙ (ap (λ (n : ℕ). take n (drop (8 * mask_l ms) PLACES)) count ∙ start)) in
    take-take (count_ones m) 8 (swz_l w8 16 lanes 0 row) few
    ∙ (ap (take (count_ones m)) (swz_is lanes row (row_long m small) (row_small m))
    ∙ (take-map read (count_ones m) row ∙ (ap (map read) places ∙ left)))

-- what is put of eight bytes
pub eight_put : (p : ℕ → Bool) (lanes eight bs bs' : List ℕ) (m to : ℕ) → length lanes ≡ 16
    → to ≤ length bs → m ≡ mask_l (map p (take 8 lanes))
    → take (count_ones m) eight ≡ filter p (take 8 lanes) → take (to + 8) bs' ≡ take to bs ++ eight
    → take (to + count_ones m) bs' ≡ take to bs ++ filter p (take 8 lanes)
eight_put p lanes eight bs bs' m to long room is found copied =
    let few : count_ones m ≤ 8 =
    omega (
      arith,
      ap count_ones is,
      ones-mask_l p (take 8 lanes),
      count_by-le-length p (take 8 lanes),
      length-take 8 lanes,
      long,
    ) in
    let front_long : length (take to bs) ≡ to = omega (arith, length-take to bs, room) in
    sym (take-take (to + count_ones m) (to + 8) bs' (omega (arith, few)))
    ∙ (ap (take (to + count_ones m)) copied
    ∙ (ap (λ (n : ℕ). take (n + count_ones m) (take to bs ++ eight)) (sym front_long)
    ∙ (take-append-add (take to bs) eight (count_ones m)
    ∙ ap (λ (z : List ℕ). take to bs ++ z) found)))

-- ---- the two halves of a mask

joined : (ls ms : List Bool) → mask_l (ls ++ ms) ≡ mask_l ls + 2 ^ length ls * mask_l ms
joined [] ms = omega arith
joined (l ∷ ls) ms =
    let twice : 2 ^ length (l ∷ ls) ≡ 2 * 2 ^ length ls = pow-succ' 2 (length ls) in
    let more : 2 ^ length (l ∷ ls) * mask_l ms ≡ 2 * (2 ^ length ls * mask_l ms) =
    ap (λ (n : ℕ). n * mask_l ms) twice ∙ mul_assoc 2 (2 ^ length ls) (mask_l ms) in
    omega (arith, joined ls ms, more)

pub halves : (p : ℕ → Bool) (lanes : List ℕ) → length lanes ≡ 16
    → (mask_l (map p lanes) % 256 ≡ mask_l (map p (take 8 lanes)))
    × (mask_l (map p lanes) / 256 ≡ mask_l (map p (drop 8 lanes)))
halves p lanes long =
    let front = map p (take 8 lanes) in
    let front_long : length front ≡ 8 = length-map (take 8 lanes) p
    ∙ omega (arith, long, length-take 8 lanes) in
    let whole : mask_l (map p lanes) ≡ mask_l front + 2 ^ length front * mask_l
    (map p (drop 8 lanes)) =
    ap (λ (z : List ℕ). mask_l (map p z)) (sym (take-append-drop 8 lanes))
    ∙ (ap mask_l (map-append p (take 8 lanes) (drop 8 lanes))
    ∙ joined front (map p (drop 8 lanes))) in
    let eight : 2 ^ length front ≡ 256 = ap (λ (n : ℕ). 2 ^ n) front_long in
    let small : mask_l front < 256 = omega (arith, mask_l-lt front, eight) in
    let sum : mask_l (map p lanes) ≡ mask_l front + 256 * mask_l (map p (drop 8 lanes)) = whole
    ∙ ap (λ (n : ℕ). mask_l front + n * mask_l (map p (drop 8 lanes))) eight in
    (omega arith, omega arith)

pub half_small : (p : ℕ → Bool) (lanes : List ℕ) (m : ℕ) → length lanes ≡ 16
    → m ≡ mask_l (map p lanes) → m / 256 < 256
half_small p lanes m long is =
    let marks_long : length (map p lanes) ≡ 16 = length-map lanes p ∙ long in
    let all : 2 ^ length (map p lanes) ≡ 65536 = ap (λ (n : ℕ). 2 ^ n) marks_long in
    omega (arith, is, all, mask_l-lt (map p lanes))

-- what is put of the first eight, and then of the others
pub both_put : (p : ℕ → Bool) (lanes turned bs bs' bs'' : List ℕ) (m kept middle end : ℕ)
    → length lanes ≡ 16 → m ≡ mask_l (map p lanes) → take 8 turned ≡ drop 8 lanes
    → (m % 256 ≡ mask_l (map p (take 8 lanes))
    → take middle bs' ≡ take kept bs ++ filter p (take 8 lanes))
    → (m / 256 ≡ mask_l (map p (take 8 turned))
    → take end bs'' ≡ take middle bs' ++ filter p (take 8 turned))
    → take end bs'' ≡ take kept bs ++ filter p lanes
both_put p lanes turned bs bs' bs'' m kept middle end long is turns first second =
    let h = halves p lanes long in
    let front = filter p (take 8 lanes) in
    second (ap (λ (n : ℕ). n / 256) is ∙ (h.1 ∙ ap (λ (z : List ℕ). mask_l (map p z)) (sym turns)))
    ∙ (ap (λ (z : List ℕ). z ++ filter p (take 8 turned)) (first (ap (λ (n : ℕ). n % 256) is ∙ h.0))
    ∙ (append_assoc (take kept bs) front (filter p (take 8 turned))
    ∙ ap (λ (z : List ℕ). take kept bs ++ z)
    (ap (λ (z : List ℕ). front ++ filter p z) turns
    ∙ (sym (filter-append p (take 8 lanes) (drop 8 lanes))
    ∙ ap (filter p) (take-append-drop 8 lanes)))))

-- ---- eight bytes that are put

-- the bytes after them
pub after_eight : (xs ys : List ℕ) (to n : ℕ) → length ys ≡ 8 → to + 8 ≤ n → n ≤ length xs
    → drop n (put_chunk to xs ys) ≡ drop n xs
after_eight xs ys to n long past within =
    let whole : take to xs ++ (ys ++ drop (length ys) (drop to xs))
    ≡ (take to xs ++ ys) ++ drop (to + 8) xs =
    sym (append_assoc (take to xs) ys (drop (length ys) (drop to xs)))
    ∙ ap (λ (z : List ℕ). (take to xs ++ ys) ++ z) (ap (λ (j : ℕ). drop j (drop to xs)) long
    ∙ drop-drop 8 to xs) in
    ap (drop n) (put_chunk_is to xs ys (omega (arith, long)) ∙ whole)
    ∙ drop-append-drop (to + 8) xs (take to xs ++ ys) n past
    (omega (arith, long, length-append (take to xs) ys, length-take to xs))
