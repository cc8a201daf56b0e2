-- Bytes that uniq takes line by line.
use Rattle.std.proofs.Common.{◌≡◌, ℕ, ◌+◌, ◌-◌, ◌≤◌, List, [], ◌∷◌, ◌++◌, length, map, take, drop}
use Rattle.std.proofs.Common.{true, refl, ap, ◌∙◌, sym, subst, arith, append_assoc}
use Rattle.std.specs.Str.{bytes_eq}
use Rattle.std.proofs.lemmas.List.{drop-drop, length-append, length-drop, length-take}
use Rattle.std.proofs.lemmas.List.{take-append-drop, take_rest}
use Rattle.std.proofs.Math.Seq.{take-append-add, take-append_seam}
use Rattle.machine.specs.Lines.{lines, led, content, newline, HasNoNewline, IsLine}
use Rattle.machine.proofs.LinesLaws.{lines-open, lines-whole, led-cons, led-led, content-whole}
use Rattle.pair_filters.specs.declared.runs.Rules.{Rules}
use Rattle.machine.specs.inner.Places.{FirstFrom}
use Rattle.pair_filters.specs.LineKeys.{key_by}
use Rattle.pair_filters.proofs.lemmas.RunLaws.{same_is}
use Rattle.pair_filters.specs.UniqSteps.{TakesLine, TakesBytes, IsOneTooMany, AreTooMany}
use Rattle.pair_filters.specs.UniqSteps.{contents_behind, greatest_by, text_by}

-- the content of the first line from `at` on, which ends with the newline at k, and those after it
pub contents_first : (partial bytes zs : List ℕ) (at k : ℕ) → FirstFrom bytes newline at k
    → contents_behind partial (drop at bytes ++ zs)
    ≡ (partial ++ take (k - at) (drop at bytes)) ∷ contents_behind [] (drop (k + 1) bytes ++ zs)
contents_first partial bytes zs at k f =
    let front = take (k - at) (drop at bytes) in
    let after = drop (k + 1) bytes in
    ap (λ (x : List ℕ). contents_behind partial (x ++ zs)) (f.here
    ∙ sym (append_assoc front (newline ∷ []) after))
    ∙ (ap (contents_behind partial) (append_assoc (front ++ newline ∷ []) after zs)
    ∙ (ap (λ (ls : List (List ℕ)). map content (led partial ls))
    (lines-whole (front ++ newline ∷ []) (after ++ zs) (front, f.none_before, refl))
    ∙ (ap (map content) (led-cons partial (front ++ newline ∷ []) (lines (after ++ zs)))
    ∙ ap (λ (x : List ℕ). x ∷ contents_behind [] (after ++ zs))
    (ap content (sym (append_assoc partial front (newline ∷ [])))
    ∙ content-whole (partial ++ front)))))

-- no line ends in these bytes
pub contents_open : (partial bytes zs : List ℕ) → HasNoNewline bytes
    → contents_behind partial (bytes ++ zs) ≡ contents_behind (partial ++ bytes) zs
contents_open partial bytes zs none =
    ap (λ (ls : List (List ℕ)). map content (led partial ls)) (lines-open bytes zs none)
    ∙ ap (map content) (led-led partial bytes (lines zs))

-- the first line from `at` on, with its newline at k
pub with_newline : (bytes : List ℕ) (at k : ℕ) → FirstFrom bytes newline at k
    → take (k + 1 - at) (drop at bytes) ≡ take (k - at) (drop at bytes) ++ newline ∷ []
with_newline bytes at k f =
    let front = take (k - at) (drop at bytes) in
    let n : k + 1 - at ≡ length front + 1 =
    omega (
      arith,
      f.after,
      f.within,
      length-take (k - at) (drop at bytes),
      length-drop at bytes,
    ) in
    ap (λ (x : List ℕ). take (k + 1 - at) x) f.here
    ∙ (ap (λ (j : ℕ). take j (front ++ newline ∷ drop (k + 1) bytes)) n
    ∙ take-append-add front (newline ∷ drop (k + 1) bytes) 1)

-- If a line from `at` on is as good as one that is known, its newline is the first one.
pub record StandsAt (bytes before : List ℕ) (at k : ℕ) : Type 0 where
  pub first : FirstFrom bytes newline at k
  pub same : take (k + 1 - at) (drop at bytes) ≡ before

pub has_column_at : (bytes before : List ℕ) (at : ℕ) → at ≤ length bytes → IsLine before
    → bytes_eq before (take (length before) (take (length bytes - at) (drop at bytes))) ≡ true
    → StandsAt bytes before at (at + (length before - 1))
has_column_at bytes before at within line alike =
    let rest = drop at bytes in
    let front = line.0 in
    let e : before ≡ take (length before) rest =
    same_is before (take (length before) (take (length bytes - at) rest)) alike
    ∙ ap (take (length before)) (take_rest bytes at) in
    let long : length before ≡ length front + 1 = ap length (line.2)
    ∙ length-append front (newline ∷ []) in
    let some : length before ≤ length rest =
    omega (arith, ap length e, length-take (length before) rest) in
    let k : at + (length before - 1) - at ≡ length front = omega (arith, long) in
    let n : at + (length before - 1) + 1 - at ≡ length before = omega (arith, long) in
    let m : length before + at ≡ at + (length before - 1) + 1 = omega (arith, long) in
    let split : rest ≡ front ++ newline ∷ drop (at + (length before - 1) + 1) bytes =
    sym (take-append-drop (length before) rest)
    ∙ (ap (λ (x : List ℕ). x ++ drop (length before) rest) (sym e ∙ line.2)
    ∙ (append_assoc front (newline ∷ []) (drop (length before) rest)
    ∙ ap (λ (x : List ℕ). front ++ newline ∷ x) (drop-drop (length before) at bytes
    ∙ ap (λ (j : ℕ). drop j bytes) (sym (omega arith) ∙ m)))) in
    let begins : take (at + (length before - 1) - at) rest ≡ front =
    ap (λ (j : ℕ). take j rest) k ∙ (ap (take (length front)) split
    ∙ take-append_seam front (newline ∷ drop (at + (length before - 1) + 1) bytes)) in
    record {
      first = record {
        after = omega arith;
        within = omega (arith, long, some, length-drop at bytes);
        none_before = subst HasNoNewline (sym begins) (line.1);
        here = split ∙ ap (λ (x : List ℕ). x ++ newline ∷ drop (at + (length before - 1) + 1) bytes)
            (sym begins);
      };
      same = ap (λ (j : ℕ). take j rest) n ∙ sym e;
    }

-- a line came before, with the key of the first line of the run that is not over
pub record IsBefore (rules : Rules) (before first : List ℕ) (count : ℕ) : Type 0 where
  pub line : IsLine before
  pub some : 1 ≤ count
  pub key : key_by rules (content before) ≡ key_by rules (content first)

-- the next line is as good as that one
pub as_before : (rules : Rules) (bytes before first : List ℕ) (count at k : ℕ)
    → FirstFrom bytes newline at k → (1 ≤ length before → IsBefore rules before first count)
    → take (k + 1 - at) (drop at bytes) ≡ before → (1 ≤ count)
    × (key_by rules (take (k - at) (drop at bytes)) ≡ key_by rules (content first))
as_before rules bytes before first count at k f known same =
    let line = take (k - at) (drop at bytes) in
    let whole : before ≡ line ++ newline ∷ [] = sym same ∙ with_newline bytes at k f in
    let some : 1 ≤ length before =
    omega (arith, ap length whole, length-append line (newline ∷ [])) in
    let b = known some in
    (b.some, ap (key_by rules) (sym (content-whole line) ∙ ap content (sym whole)) ∙ b.key)

-- the bytes before `at` are taken
pub record RunsWalked (rules : Rules) (begun begun' : List (List ℕ)) (bytes : List ℕ) (at : ℕ)
    (made made' : List ℕ) : Type 0 where
  pub within : at ≤ length bytes
  pub splits : (zs : List ℕ) → made ++ text_by rules (begun ++ contents_behind [] (bytes ++ zs))
      ≡ made' ++ text_by rules (begun' ++ contents_behind [] (drop at bytes ++ zs))
  pub counts : (zs : List ℕ)
      → greatest_by rules (begun' ++ contents_behind [] (drop at bytes ++ zs)) ≤ greatest_by rules
      (begun ++ contents_behind [] (bytes ++ zs))

pub walked_none : (rules : Rules) (begun : List (List ℕ)) (bytes made : List ℕ)
    → RunsWalked rules begun begun bytes 0 made made
walked_none rules begun bytes made =
    record { within = omega arith; splits = λ zs. refl; counts = λ zs. omega arith }

-- one line more
pub walked_more : (rules : Rules) (begun begun1 begun2 : List (List ℕ)) (bytes : List ℕ) (at k : ℕ)
    (made made1 made2 : List ℕ) → RunsWalked rules begun begun1 bytes at made made1
    → FirstFrom bytes newline at k
    → TakesLine rules begun1 begun2 (take (k - at) (drop at bytes)) made1 made2
    → RunsWalked rules begun begun2 bytes (k + 1) made made2
walked_more rules begun begun1 begun2 bytes at k made made1 made2 w f t =
    record {
      within = omega (arith, f.within);
      splits = λ zs.
          let later = contents_behind [] (drop (k + 1) bytes ++ zs) in
          w.splits zs
          ∙ (ap (λ (ls : List (List ℕ)). made1 ++ text_by rules (begun1 ++ ls))
          (contents_first [] bytes zs at k f) ∙ t.splits later);
      counts = λ zs.
          let later = contents_behind [] (drop (k + 1) bytes ++ zs) in
          let e : greatest_by rules (begun1 ++ contents_behind [] (drop at bytes ++ zs))
          ≡ greatest_by rules (begun1 ++ take (k - at) (drop at bytes) ∷ later) =
          ap (λ (ls : List (List ℕ)). greatest_by rules (begun1 ++ ls))
          (contents_first [] bytes zs at k f) in
          omega (arith, w.counts zs, t.counts later);
    }

-- no line ends in what is left
pub walked_all : (rules : Rules) (begun begun1 : List (List ℕ)) (bytes rest : List ℕ) (at : ℕ)
    (made made1 : List ℕ) → RunsWalked rules begun begun1 bytes at made made1
    → HasNoNewline (drop at bytes) → rest ≡ drop at bytes
    → TakesBytes rules begun begun1 [] rest bytes made made1
walked_all rules begun begun1 bytes rest at made made1 w none is =
    let e = λ (zs : List ℕ). contents_open [] (drop at bytes) zs none
    ∙ ap (λ (x : List ℕ). contents_behind x zs) (sym is) in
    record {
      splits = λ zs. w.splits zs
          ∙ ap (λ (ls : List (List ℕ)). made1 ++ text_by rules (begun1 ++ ls)) (e zs);
      counts = λ zs.
          let same : greatest_by rules (begun1 ++ contents_behind [] (drop at bytes ++ zs))
          ≡ greatest_by rules (begun1 ++ contents_behind rest zs) =
          ap (λ (ls : List (List ℕ)). greatest_by rules (begun1 ++ ls)) (e zs) in
          omega (arith, w.counts zs);
    }

-- the next line is one too many
pub walked_too_many : (rules : Rules) (begun begun1 : List (List ℕ)) (bytes : List ℕ) (at k : ℕ)
    (made made1 : List ℕ) → RunsWalked rules begun begun1 bytes at made made1
    → FirstFrom bytes newline at k → IsOneTooMany rules begun1 (take (k - at) (drop at bytes))
    → AreTooMany rules begun [] bytes
walked_too_many rules begun begun1 bytes at k made made1 w f t zs =
    let later = contents_behind [] (drop (k + 1) bytes ++ zs) in
    let e : greatest_by rules (begun1 ++ contents_behind [] (drop at bytes ++ zs))
    ≡ greatest_by rules (begun1 ++ take (k - at) (drop at bytes) ∷ later) =
    ap (λ (ls : List (List ℕ)). greatest_by rules (begun1 ++ ls))
    (contents_first [] bytes zs at k f) in
    omega (arith, w.counts zs, t later)
