-- Short lines, cut byte by byte.
use Rattle.std.proofs.Common.{◌≡◌, ℕ, suc, ◌+◌, ◌<◌, ◌≤◌, Bool, true, false, cond, eqb, List, []}
use Rattle.std.proofs.Common.{◌∷◌, ◌++◌, length, get_or, set, take, drop, refl, ap, ◌∙◌, sym, arith}
use Rattle.std.proofs.Common.{append_assoc, drop_of_length-le}
use Rattle.std.specs.Prelude.{◌||◌}
use Rattle.std.proofs.Math.Seq.{take-suc-set}
use Rattle.std.proofs.lemmas.List.{append-nil, take-set, drop_more}
use Rattle.machine.specs.Lines.{newline}
use Rattle.line_filters.specs.ShortLines.{bytes_of_lines}

-- a byte that ends a line, and one that does not
pub of_end : (s : ℕ → Bool) (n x : ℕ) (xs : List ℕ) → eqb x newline ≡ true
    → bytes_of_lines s n (x ∷ xs) ≡ x ∷ bytes_of_lines s 0 xs
of_end s n x xs e =
    ap (λ (b : Bool). cond b (x ∷ bytes_of_lines s 0 xs)
    (cond (s (suc n)) (x ∷ bytes_of_lines s (suc n) xs) (bytes_of_lines s (suc n) xs))) e

pub of_other : (s : ℕ → Bool) (n x : ℕ) (xs : List ℕ) → eqb x newline ≡ false
    → bytes_of_lines s n (x ∷ xs) ≡ cond (s (suc n)) (x ∷ bytes_of_lines s (suc n) xs)
    (bytes_of_lines s (suc n) xs)
of_other s n x xs e =
    ap (λ (b : Bool). cond b (x ∷ bytes_of_lines s 0 xs)
    (cond (s (suc n)) (x ∷ bytes_of_lines s (suc n) xs) (bytes_of_lines s (suc n) xs))) e

-- of the lines before a place, what is written is at the front
pub record Picked (s : ℕ → Bool) (lines' few : List ℕ) (at passed made : ℕ) : Type 0 where
  pub short : made ≤ at
  pub near : passed ≤ at
  pub splits : take made few ++ bytes_of_lines s passed (drop at lines') ≡ bytes_of_lines s 0 lines'

pub picked_none : (s : ℕ → Bool) (lines' few : List ℕ) → Picked s lines' few 0 0 0
picked_none s lines' few = record { short = omega arith; near = omega arith; splits = refl }

-- one byte more
put_end : (few : List ℕ) (made x : ℕ) (later : List ℕ) → made < length few
    → take (made + 1) (set few made x) ++ later ≡ take made few ++ x ∷ later
put_end few made x later room =
    let n : made + 1 ≡ suc made = omega arith in
    ap (λ (j : ℕ). take j (set few made x) ++ later) n
    ∙ (ap (λ (y : List ℕ). y ++ later) (take-suc-set few made x room)
    ∙ append_assoc (take made few) (x ∷ []) later)

put_not : (few : List ℕ) (made x : ℕ) (later : List ℕ)
    → take (made + 0) (set few made x) ++ later ≡ take made few ++ later
put_not few made x later =
    let n : made + 0 ≡ made = omega arith in
    ap (λ (j : ℕ). take j (set few made x) ++ later) n
    ∙ ap (λ (y : List ℕ). y ++ later) (take-set few made x)

-- what is put of one byte
pick_by : (s : ℕ → Bool) (few xs : List ℕ) (made passed x : ℕ) (b c : Bool) → eqb x newline ≡ b
    → s (suc passed) ≡ c → made < length few
    → take (made + cond (b || c) 1 0) (set few made x) ++ bytes_of_lines s
    (cond b 0 (suc passed)) xs ≡ take made few ++ bytes_of_lines s passed (x ∷ xs)
pick_by s few xs made passed x true c e f room =
    put_end few made x (bytes_of_lines s 0 xs) room
    ∙ ap (λ (y : List ℕ). take made few ++ y) (sym (of_end s passed x xs e))
pick_by s few xs made passed x false true e f room =
    put_end few made x (bytes_of_lines s (suc passed) xs) room
    ∙ ap (λ (y : List ℕ). take made few ++ y)
    (sym (of_other s passed x xs e
    ∙ ap (λ (c : Bool). cond c (x ∷ bytes_of_lines s (suc passed) xs)
    (bytes_of_lines s (suc passed) xs)) f))
pick_by s few xs made passed x false false e f room =
    put_not few made x (bytes_of_lines s (suc passed) xs)
    ∙ ap (λ (y : List ℕ). take made few ++ y)
    (sym (of_other s passed x xs e
    ∙ ap (λ (c : Bool). cond c (x ∷ bytes_of_lines s (suc passed) xs)
    (bytes_of_lines s (suc passed) xs)) f))

counted : (b : Bool) → cond b 1 0 ≤ 1
counted true = omega arith
counted false = omega arith

reached : (b : Bool) (n : ℕ) → cond b 0 (suc n) ≤ suc n
reached true n = omega arith
reached false n = omega arith

pub picked_more : (s : ℕ → Bool) (lines' few : List ℕ) (at passed made count passed' : ℕ) (c : Bool)
    → Picked s lines' few at passed made → at < length lines' → length lines' ≤ 64 → length few ≡ 64
    → c ≡ s (suc passed) → count ≡ cond (eqb (get_or lines' at 0) newline || c) 1 0
    → passed' ≡ cond (eqb (get_or lines' at 0) newline) 0 (suc passed)
    → Picked s lines' (set few made (get_or lines' at 0)) (at + 1) passed' (made + count)
picked_more s lines' few at passed made count passed' c p within short room low e f =
    let x = get_or lines' at 0 in
    record {
      short = omega (arith, e, counted (eqb x newline || c), p.short);
      near = omega (arith, f, reached (eqb x newline) passed, p.near);
      splits =
          ap (λ (j : ℕ). take (made + j) (set few made x) ++ bytes_of_lines s passed'
          (drop (at + 1) lines')) e
          ∙ (ap (λ (j : ℕ). take (made + cond (eqb x newline || c) 1 0) (set few made x)
          ++ bytes_of_lines s j (drop (at + 1) lines')) f
          ∙ (pick_by s few (drop (at + 1) lines') made passed x (eqb x newline) c refl (sym low)
          (omega (arith, p.short, within, short, room))
          ∙ (ap (λ (y : List ℕ). take made few ++ bytes_of_lines s passed y)
          (sym (drop_more lines' at 0 within))
          ∙ p.splits)));
    }

-- all bytes are looked at
pub picked_all : (s : ℕ → Bool) (lines' few : List ℕ) (at passed made : ℕ)
    → Picked s lines' few at passed made → length lines' ≤ at
    → take made few ≡ bytes_of_lines s 0 lines'
picked_all s lines' few at passed made p over =
    sym (append-nil (take made few))
    ∙ (ap (λ (y : List ℕ). take made few ++ bytes_of_lines s passed y)
    (sym (drop_of_length-le lines' over)) ∙ p.splits)
