-- Words of two parts of a stream.
use Rattle.std.proofs.Common.{◌≡◌, ℕ, ◌+◌, ◌-◌, ◌<◌, ◌≤◌, List, [], ◌∷◌, ◌++◌, Bool, true, false}
use Rattle.std.proofs.Common.{cond, get_or, drop, take, length, refl, ap, ◌∙◌, sym, arith}
use Rattle.std.proofs.Common.{length-drop}
use Rattle.std.specs.Prelude.{◌&&◌, ◌==◌, not}
use Rattle.std.proofs.lemmas.List.{drop-drop, take_all, take_more}
use Rattle.std.proofs.lemmas.List.Sums.{sum_by-cons}
use Rattle.machine.proofs.PlaceLaws.{some_from}
use Rattle.machine.proofs.SplitLaws.{take_split, take_long}
use Rattle.commands.specs.Wc.{is_word, neighbours, words_after}
use Rattle.byte_filters.specs.WcSteps.{ends_in_word}

-- whether a word begins
abbrev pub begins : Bool × Bool → ℕ
begins p = cond (not p.0 && p.1) 1 0

pub words_first : (b : Bool) (x : ℕ) (xs : List ℕ)
    → words_after b (x ∷ xs) ≡ begins (b, is_word x) + words_after (is_word x) xs
words_first b x xs = sum_by-cons begins (b, is_word x) (neighbours (is_word x) xs)

pub words-append : (b : Bool) (xs ys : List ℕ)
    → words_after b (xs ++ ys) ≡ words_after b xs + words_after (ends_in_word b xs) ys
words-append b [] ys = omega arith
words-append b (x ∷ xs) ys =
    let e = words_first b x (xs ++ ys) in
    let f = words_first b x xs in
    let g = words-append (is_word x) xs ys in
    omega arith

ends-append : (b : Bool) (xs ys : List ℕ)
    → ends_in_word b (xs ++ ys) ≡ ends_in_word (ends_in_word b xs) ys
ends-append b [] ys = refl
ends-append b (x ∷ xs) ys = ends-append (is_word x) xs ys

words_one : (b : Bool) (x : ℕ) → words_after b (x ∷ []) ≡ begins (b, is_word x)
words_one b x = let e = words_first b x [] in omega arith

-- one byte more
pub words_more : (b before : Bool) (bytes : List ℕ) (at words : ℕ) → at < length bytes
    → words ≡ words_after b (take at bytes) → before ≡ ends_in_word b (take at bytes)
    → words + begins (before, is_word (get_or bytes at 0)) ≡ words_after b (take (at + 1) bytes)
words_more b before bytes at words within e f =
    let x = get_or bytes at 0 in
    let g : words_after b (take (at + 1) bytes) ≡ words_after b (take at bytes) + words_after
    (ends_in_word b (take at bytes)) (x ∷ []) = ap (words_after b) (take_more bytes at 0 within)
    ∙ words-append b (take at bytes) (x ∷ []) in
    let h : words_after (ends_in_word b (take at bytes)) (x ∷ []) ≡ begins (before, is_word x) =
    words_one (ends_in_word b (take at bytes)) x
    ∙ ap (λ (c : Bool). begins (c, is_word x)) (sym f) in
    omega arith

pub ends_more : (b : Bool) (bytes : List ℕ) (at : ℕ) → at < length bytes
    → is_word (get_or bytes at 0) ≡ ends_in_word b (take (at + 1) bytes)
ends_more b bytes at within =
    sym (ap (ends_in_word b) (take_more bytes at 0 within)
    ∙ ends-append b (take at bytes) (get_or bytes at 0 ∷ []))

-- the last byte decides
pub ends_last : (b : Bool) (bytes : List ℕ) → ((length bytes == 0) ≡ false)
    → is_word (get_or bytes (length bytes - 1) 0) ≡ ends_in_word b bytes
ends_last b bytes some =
    let long : 1 ≤ length bytes = some_from bytes some in
    let n : length bytes - 1 + 1 ≡ length bytes = omega arith in
    ends_more b bytes (length bytes - 1) (omega arith)
    ∙ ap (ends_in_word b) (ap (λ (k : ℕ). take k bytes) n
    ∙ take_all (length bytes) bytes (omega arith))

pub at_most_one : (b : Bool) → cond b 1 0 ≤ 1
at_most_one true = omega arith
at_most_one false = omega arith

pub words_few : (b : Bool) (xs : List ℕ) → words_after b xs ≤ length xs
words_few b [] = omega arith
words_few b (x ∷ xs) =
    let e = words_first b x xs in
    let f = words_few (is_word x) xs in
    let g = at_most_one (not b && is_word x) in
    omega arith

-- ---- words, some bytes at a time

-- how many words began so far, and whether the last byte so far belongs to one
pub record HasBegunUpTo (before : Bool) (bytes : List ℕ) (at words : ℕ) (last : Bool) : Type 0 where
  pub within : at ≤ length bytes
  pub few : words ≤ at
  pub counted : words + words_after last (drop at bytes) ≡ words_after before bytes

pub begun_more : (before : Bool) (bytes rest some : List ℕ) (at words n here : ℕ) (last next : Bool)
    → rest ≡ drop at bytes → some ≡ take n rest → here ≡ words_after last some
    → next ≡ ends_in_word last some → HasBegunUpTo before bytes at words last
    → HasBegunUpTo before bytes (at + length some) (words + here) next
begun_more before bytes rest some at words n here last next r e h f c =
    let s : some ≡ take n (drop at bytes) = e ∙ ap (take n) r in
    let long = take_long n (drop at bytes) in
    let same = ap length s in
    let was : at ≤ length bytes = c.within in
    let sofar = c.counted in
    let d = length-drop at bytes in
    let most = words_few last some in
    let fewer : words ≤ at = c.few in
    let split : words_after last (drop at bytes) ≡ words_after last some + words_after
    (ends_in_word last some) (drop (length some) (drop at bytes)) =
    ap (words_after last) (take_split n (drop at bytes)
    ∙ ap (λ (z : List ℕ). z ++ drop (length z) (drop at bytes)) (sym s))
    ∙ words-append last some (drop (length some) (drop at bytes)) in
    let gone : words_after (ends_in_word last some) (drop (length some) (drop at bytes))
    ≡ words_after next (drop (at + length some) bytes) =
    ap (λ (b : Bool). words_after b (drop (length some) (drop at bytes))) (sym f)
    ∙ ap (words_after next) (drop-drop (length some) at bytes) in
    record {
      within = omega (arith, long.1);
      few = omega arith;
      counted = omega arith;
    }
