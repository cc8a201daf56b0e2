-- Bytes that are left of a chunk when some are taken out.
use Rattle.std.proofs.Common.{◌≡◌, ◌≢◌, ltb, ℕ, suc, ◌+◌, ◌-◌, ◌*◌, ◌/◌, ◌%◌, ◌^◌, ◌<◌, ◌≤◌, Bool}
use Rattle.std.proofs.Common.{true, false, cond, eqb, List, [], ◌∷◌, ◌++◌, length, get_or, take}
use Rattle.std.proofs.Common.{drop, refl, ap, ◌∙◌, sym, arith}
use Rattle.std.specs.Prelude.{◌&&◌}
use Rattle.std.specs.Int.{bit_at}
use Rattle.std.proofs.lemmas.Bool.{eqb-true, eqb-false, ltb-true, ltb-false}
use Rattle.std.proofs.lemmas.Nat.Bits.{bit_at-suc, bit_at_lowest, bit_at_cat_low, bit_at-zero}
use Rattle.std.proofs.lemmas.List.{length-take, length-drop, get_or-take, get_or-drop, drop-drop}
use Rattle.std.proofs.lemmas.List.{drop-take, take-take, append-nil}
use Rattle.std.proofs.Math.Seq.{take-add}
use Rattle.lanes.specs.inner.Gathers.{unmarked, singled}
use Rattle.lanes.proofs.lemmas.PrefixLaws.{chunk_written}

-- ---- a mask, and a bit before it

carried : (b : Bool) (m : ℕ) → (m * 2 % 2 ^ 64 + cond b 1 0) / 2 ≡ m % 2 ^ 63
carried true m = omega arith
carried false m = omega arith

lowest_by : (b : Bool) (m : ℕ) → (m * 2 % 2 ^ 64 + cond b 1 0) % 2 ≡ cond b 1 0
lowest_by true m = omega arith
lowest_by false m = omega arith

pub first_bit : (b : Bool) (m : ℕ) → bit_at (m * 2 % 2 ^ 64 + cond b 1 0) 0 ≡ cond b 1 0
first_bit b m = bit_at_lowest (m * 2 % 2 ^ 64 + cond b 1 0) ∙ lowest_by b m

pub later_bit : (b : Bool) (m k : ℕ) → k < 63
    → bit_at (m * 2 % 2 ^ 64 + cond b 1 0) (k + 1) ≡ bit_at m k
later_bit b m k small =
    let n : k + 1 ≡ suc k = omega arith in
    let whole : m / 2 ^ 63 * 2 ^ 63 + m % 2 ^ 63 ≡ m = omega arith in
    ap (bit_at (m * 2 % 2 ^ 64 + cond b 1 0)) n
    ∙ (bit_at-suc (m * 2 % 2 ^ 64 + cond b 1 0) k
    ∙ (ap (λ (x : ℕ). bit_at x k) (carried b m)
    ∙ (sym (bit_at_cat_low (m / 2 ^ 63) 63 (m % 2 ^ 63) k small)
    ∙ ap (λ (x : ℕ). bit_at x k) whole)))

-- ---- bytes by their bits

unmarked-append : (m k : ℕ) (xs ys : List ℕ)
    → unmarked m k (xs ++ ys) ≡ unmarked m k xs ++ unmarked m (k + length xs) ys
unmarked-append m k [] ys = let n : k ≡ k + 0 = omega arith in ap (λ (j : ℕ). unmarked m j ys) n
unmarked-append m k (x ∷ xs) ys =
    let n : k + 1 + length xs ≡ k + length (x ∷ xs) = omega arith in
    by_case (eqb (bit_at m k) 0) (unmarked-append m (k + 1) xs ys
    ∙ ap (λ (j : ℕ). unmarked m (k + 1) xs ++ unmarked m j ys) n)
  where
    by_case : (b : Bool) → unmarked m (k + 1) (xs ++ ys)
        ≡ unmarked m (k + 1) xs ++ unmarked m (k + length (x ∷ xs)) ys
        → cond b (x ∷ unmarked m (k + 1) (xs ++ ys)) (unmarked m (k + 1) (xs ++ ys))
        ≡ cond b (x ∷ unmarked m (k + 1) xs) (unmarked m (k + 1) xs) ++ unmarked m
        (k + length (x ∷ xs)) ys
    by_case true e = ap (λ (z : List ℕ). x ∷ z) e
    by_case false e = e

unmarked_clear : (m k : ℕ) (xs : List ℕ) → ((j : ℕ) → j < length xs → bit_at m (k + j) ≡ 0)
    → unmarked m k xs ≡ xs
unmarked_clear m k [] clear = refl
unmarked_clear m k (x ∷ xs) clear =
    let n : k + 0 ≡ k = omega arith in
    let here : bit_at m k ≡ 0 = ap (bit_at m) (sym n) ∙ clear 0 (omega arith) in
    ap (λ (b : ℕ). cond (eqb b 0) (x ∷ unmarked m (k + 1) xs) (unmarked m (k + 1) xs)) here
    ∙ ap (λ (z : List ℕ). x ∷ z) (unmarked_clear m (k + 1) xs
    (λ j h. let p : k + 1 + j ≡ k + suc j = omega arith in ap (bit_at m) p
    ∙ clear (suc j) (omega (arith, h))))

unmarked_gone : (m k : ℕ) (xs : List ℕ) → bit_at m k ≡ 1 → unmarked m k (take 1 xs) ≡ []
unmarked_gone m k [] set = refl
unmarked_gone m k (x ∷ xs) set = ap (λ (b : ℕ). cond (eqb b 0) (x ∷ []) []) set

left_by : (b : Bool) (x : ℕ) (xs : List ℕ)
    → cond (eqb (cond {A = ℕ} b 1 0) 0) (x ∷ xs) xs ≡ cond b xs (x ∷ xs)
left_by true x xs = refl
left_by false x xs = refl

pub unmarked_singled : (p : ℕ → Bool) (m k : ℕ) (gone : Bool) (xs : List ℕ)
    → (0 < length xs → bit_at m k ≡ cond gone 1 0)
    → ((j : ℕ) → suc j < length xs → bit_at m (k + suc j)
    ≡ cond (p (get_or xs j 0) && eqb (get_or xs j 0) (get_or xs (suc j) 0)) 1 0)
    → unmarked m k xs ≡ singled p gone xs
unmarked_singled p m k gone [] first later = refl
unmarked_singled p m k gone (x ∷ []) first later =
    ap (λ (b : ℕ). cond (eqb b 0) (x ∷ []) []) (first (omega arith)) ∙ left_by gone x []
unmarked_singled p m k gone (x ∷ y ∷ ys) first later =
    let n : k + 1 ≡ k + suc 0 = omega arith in
    let rest : unmarked m (k + 1) (y ∷ ys) ≡ singled p (p x && eqb x y) (y ∷ ys) =
    unmarked_singled p m (k + 1) (p x && eqb x y) (y ∷ ys) (λ h. ap (bit_at m) n
    ∙ later 0 (omega arith)) (λ j h. let q : k + 1 + suc j ≡ k + suc (suc j) = omega arith in
    ap (bit_at m) q ∙ later (suc j) (omega (arith, h))) in
    ap (λ (b : ℕ). cond (eqb b 0) (x ∷ unmarked m (k + 1) (y ∷ ys)) (unmarked m (k + 1) (y ∷ ys)))
    (first (omega arith))
    ∙ (left_by gone x (unmarked m (k + 1) (y ∷ ys)) ∙ ap (λ (z : List ℕ). cond gone z (x ∷ z)) rest)

-- ---- run by run

-- what was gathered of a chunk up to a place; `left` has the bits from there on
pub record HasGathered (chunk few : List ℕ) (gone left from to : ℕ) : Type 0 where
  pub within : from ≤ 64
  pub order : to ≤ from
  pub made : take to few ≡ unmarked gone 0 (take from chunk)
  pub passed : (k : ℕ) → k < from → bit_at left k ≡ 0
  pub ahead : (k : ℕ) → k < 64 → from ≤ k → bit_at left k ≡ bit_at gone k

pub gathered_none : (chunk few : List ℕ) (gone : ℕ) → HasGathered chunk few gone gone 0 0
gathered_none chunk few gone = record {
  within = omega arith;
  order = omega arith;
  made =
      refl;
  passed = λ k h. absurd (omega (arith, h));
  ahead = λ k h l. refl;
}

-- some bytes of a chunk
run_of : (bytes : List ℕ) (at from n : ℕ) → from + n ≤ 64
    → take n (take 64 (drop (at + from) bytes)) ≡ take n (drop from (take 64 (drop at bytes)))
run_of bytes at from n fits =
    let rest = drop at bytes in
    let e : 64 ≡ from + (64 - from) = omega arith in
    take-take n 64 (drop (at + from) bytes) (omega (arith, fits))
    ∙ (ap (take n) (sym (drop-drop from at bytes))
    ∙ (sym (take-take n (64 - from) (drop from rest) (omega (arith, fits)))
    ∙ ap (take n) (sym (drop-take from (64 - from) rest)
    ∙ ap (λ (k : ℕ). drop from (take k rest)) (sym e))))

-- a run that is copied after what was gathered
pub run_made : (bytes few few' : List ℕ) (at gone left from to n : ℕ) → at + 128 ≤ length bytes
    → length few ≡ 128 → from + n ≤ 64 → take (to + 64) few'
    ≡ take to few ++ take 64 (drop (at + from) bytes)
    → ((k : ℕ) → from ≤ k → k < from + n → bit_at gone k ≡ 0)
    → HasGathered (take 64 (drop at bytes)) few gone left from to
    → take (to + n) few' ≡ unmarked gone 0 (take (from + n) (take 64 (drop at bytes)))
run_made bytes few few' at gone left from to n room long fits copied clear h =
    let chunk = take 64 (drop at bytes) in
    let run = take n (drop from chunk) in
    let chunk_long : length chunk ≡ 64 =
    omega (arith, room, length-take 64 (drop at bytes), length-drop at bytes) in
    let from_long : length (take from chunk) ≡ from =
    omega (arith, chunk_long, h.within, length-take from chunk) in
    let to_long : length (take to few) ≡ to =
    omega (arith, long, h.within, h.order, length-take to few) in
    let next_long : length (take 64 (drop (at + from) bytes)) ≡ 64 =
    omega (
      arith,
      room,
      h.within,
      length-take 64 (drop (at + from) bytes),
      length-drop (at + from) bytes,
    ) in
    let same : unmarked gone (0 + length (take from chunk)) run ≡ run =
    unmarked_clear gone (0 + length (take from chunk)) run
    (λ j g. clear (0 + length (take from chunk) + j) (omega (arith, from_long))
    (omega (arith, from_long, g, length-take n (drop from chunk)))) in
    chunk_written (take to few) (take 64 (drop (at + from) bytes)) few' to n to_long next_long
    (omega (arith, fits)) copied
    ∙ (ap (λ (z : List ℕ). take to few ++ z) (run_of bytes at from n fits)
    ∙ (ap (λ (z : List ℕ). z ++ run) h.made
    ∙ (ap (λ (z : List ℕ). unmarked gone 0 (take from chunk) ++ z) (sym same)
    ∙ (sym (unmarked-append gone 0 (take from chunk) run)
    ∙ ap (unmarked gone 0) (sym (take-add from n chunk))))))

-- a byte more that is taken out
gone_more : (chunk : List ℕ) (gone place : ℕ) → length chunk ≡ 64 → place < 64
    → bit_at gone place ≡ 1 → unmarked gone 0 (take (place + 1) chunk)
    ≡ unmarked gone 0 (take place chunk)
gone_more chunk gone place long small set =
    let place_long : 0 + length (take place chunk) ≡ place =
    omega (arith, long, small, length-take place chunk) in
    ap (unmarked gone 0) (take-add place 1 chunk)
    ∙ (unmarked-append gone 0 (take place chunk) (take 1 (drop place chunk))
    ∙ (ap (λ (z : List ℕ). unmarked gone 0 (take place chunk) ++ z)
    (unmarked_gone gone (0 + length (take place chunk)) (drop place chunk)
    (ap (bit_at gone) place_long ∙ set))
    ∙ append-nil (unmarked gone 0 (take place chunk))))

still_clear : (gone left place from : ℕ) → place < 64 → ((k : ℕ) → k < place → bit_at left k ≡ 0)
    → ((k : ℕ) → k < 64 → from ≤ k → bit_at left k ≡ bit_at gone k) → (k : ℕ) → from ≤ k → k < place
    → bit_at gone k ≡ 0
still_clear gone left place from small below ahead k low high =
    sym (ahead k (omega (arith, small, high)) low) ∙ below k high

not_passed : (left place from : ℕ) → bit_at left place ≡ 1
    → ((k : ℕ) → k < from → bit_at left k ≡ 0) → from ≤ place
not_passed left place from set passed = by_case (ltb place from) refl
  where
    by_case : (b : Bool) → ltb place from ≡ b → from ≤ place
    by_case true e = absurd (omega (arith, set, passed place (ltb-true place from e)))
    by_case false e = ltb-false place from e

-- the next run, and the byte after it that is taken out
pub gathered_more : (bytes few few' : List ℕ) (at gone left left' from to place : ℕ)
    → at + 128 ≤ length bytes → length few ≡ 128 → place < 64 → bit_at left place ≡ 1
    → ((k : ℕ) → k < place → bit_at left k ≡ 0)
    → take (to + 64) few' ≡ take to few ++ take 64 (drop (at + from) bytes)
    → ((k : ℕ) → k < 64 → k ≢ place → bit_at left' k ≡ bit_at left k) → bit_at left' place ≡ 0
    → HasGathered (take 64 (drop at bytes)) few gone left from to
    → HasGathered (take 64 (drop at bytes)) few' gone left' (place + 1) (to + (place - from))
gathered_more bytes few few' at gone left left' from to place room long small set below copied kept
    cleared h =
    let chunk = take 64 (drop at bytes) in
    let chunk_long : length chunk ≡ 64 =
    omega (arith, room, length-take 64 (drop at bytes), length-drop at bytes) in
    let order : from ≤ place = not_passed left place from set h.passed in
    let n : from + (place - from) ≡ place = omega (arith, order) in
    let gone_here : bit_at gone place ≡ 1 = sym (h.ahead place small order) ∙ set in
    record {
      within = omega (arith, small);
      order = omega (arith, order, h.order);
      made =
          run_made bytes few few' at gone left from to (place - from) room long
          (omega (arith, order, small)) copied
          (λ k low high. still_clear gone left place from small below h.ahead k low
          (omega (arith, high, n))) h
          ∙ (ap (λ (k : ℕ). unmarked gone 0 (take k chunk)) n
          ∙ sym (gone_more chunk gone place chunk_long small gone_here));
      passed = λ k low. passed_by k low (eqb k place) refl;
      ahead = λ k high low. kept k high (λ e. absurd (omega (arith, e, low)))
          ∙ h.ahead k high (omega (arith, low, order));
    }
  where
    passed_by : (k : ℕ) → k < place + 1 → (b : Bool) → eqb k place ≡ b → bit_at left' k ≡ 0
    passed_by k low true e = ap (bit_at left') (eqb-true k place e) ∙ cleared
    passed_by k low false e =
        let apart = eqb-false k place e in
        kept k (omega (arith, low, small)) apart ∙ below k (omega (arith, low, apart))

-- what is left after the last byte that is taken out
pub gathered_all : (bytes few few' : List ℕ) (at gone left from to : ℕ) → at + 128 ≤ length bytes
    → length few ≡ 128 → left ≡ 0 → take (to + 64) few'
    ≡ take to few ++ take 64 (drop (at + from) bytes)
    → HasGathered (take 64 (drop at bytes)) few gone left from to
    → take (to + (64 - from)) few' ≡ unmarked gone 0 (take 64 (drop at bytes))
gathered_all bytes few few' at gone left from to room long none copied h =
    let chunk = take 64 (drop at bytes) in
    let n : from + (64 - from) ≡ 64 = omega (arith, h.within) in
    run_made bytes few few' at gone left from to (64 - from) room long
    (omega (arith, h.within)) copied
    (λ k low high. sym (h.ahead k (omega (arith, high, h.within)) low)
    ∙ (ap (λ (x : ℕ). bit_at x k) none ∙ bit_at-zero k)) h
    ∙ ap (unmarked gone 0) (ap (λ (k : ℕ). take k chunk) n
    ∙ take-take 64 64 (drop at bytes) (omega arith))

-- ---- what the masks of a chunk tell

chunk_item : (bytes : List ℕ) (at k : ℕ) → k < 64
    → get_or (take 64 (drop at bytes)) k 0 ≡ get_or bytes (at + k) 0
chunk_item bytes at k small = get_or-take 64 (drop at bytes) k 0 small ∙ get_or-drop at bytes k 0

doubled_by : (a b : Bool) (m s d : ℕ) → m ≡ cond a 1 0 → s ≡ cond b 1 0 → (m ≡ 1 → d ≡ s)
    → (m ≡ 0 → d ≡ 0) → d ≡ cond (a && b) 1 0
doubled_by true b m s d e f set clear = set e ∙ f
doubled_by false b m s d e f set clear = clear e

pub one_of_each : (p : ℕ → Bool) (bytes : List ℕ) (at m s d a : ℕ) (gone : Bool)
    → at + 128 ≤ length bytes
    → ((k : ℕ) → k < 64 → bit_at m k ≡ cond (p (get_or bytes (at + k) 0)) 1 0)
    → ((k : ℕ) → k < 64
    → bit_at s k ≡ cond (eqb (get_or bytes (at + k) 0) (get_or bytes (at + k + 1) 0)) 1 0)
    → ((k : ℕ) → bit_at m k ≡ 1 → bit_at d k ≡ bit_at s k)
    → ((k : ℕ) → bit_at m k ≡ 0 → bit_at d k ≡ 0) → bit_at a 0 ≡ cond gone 1 0
    → ((k : ℕ) → k < 63 → bit_at a (k + 1) ≡ bit_at d k)
    → unmarked a 0 (take 64 (drop at bytes)) ≡ singled p gone (take 64 (drop at bytes))
one_of_each p bytes at m s d a gone room marks same set clear first later =
    let chunk = take 64 (drop at bytes) in
    unmarked_singled p a 0 gone chunk (λ h. first) (λ j h.
    let small : suc j < 64 = omega (arith, h, length-take 64 (drop at bytes)) in
    let n : 0 + suc j ≡ j + 1 = omega arith in
    let q : at + j + 1 ≡ at + suc j = omega arith in
    let here = chunk_item bytes at j (omega (arith, small)) in
    let next = chunk_item bytes at (suc j) small in
    ap (bit_at a) n
    ∙ (later j (omega (arith, small))
    ∙ (doubled_by (p (get_or bytes (at + j) 0))
    (eqb (get_or bytes (at + j) 0) (get_or bytes (at + j + 1) 0)) (bit_at m j) (bit_at s j)
    (bit_at d j) (marks j (omega (arith, small))) (same j (omega (arith, small))) (set j)
    (clear j)
    ∙ (ap (λ (x : ℕ). cond {A = ℕ} (p (get_or bytes (at + j) 0) && eqb (get_or bytes (at + j) 0) x)
    1 0) (ap (λ (k : ℕ). get_or bytes k 0) q ∙ sym next)
    ∙ ap (λ (x : ℕ). cond {A = ℕ} (p x && eqb x (get_or chunk (suc j) 0)) 1 0) (sym here)))))
