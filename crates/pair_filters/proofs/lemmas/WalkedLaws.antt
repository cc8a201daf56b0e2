-- Bytes that uniq takes line by line, if the first of the lines began before them.
use Rattle.std.proofs.Common.{◌≡◌, ℕ, ◌+◌, ◌-◌, ◌≤◌, List, [], ◌∷◌, ◌++◌, length, take, drop, refl}
use Rattle.std.proofs.Common.{ap, ◌∙◌, sym, arith}
use Rattle.machine.specs.Lines.{newline, HasNoNewline}
use Rattle.machine.specs.inner.Places.{FirstFrom}
use Rattle.pair_filters.specs.declared.runs.Rules.{Rules}
use Rattle.pair_filters.specs.UniqSteps.{TakesLine, TakesBytes, IsOneTooMany, AreTooMany}
use Rattle.pair_filters.specs.UniqSteps.{contents_behind, greatest_by, text_by}
use Rattle.pair_filters.proofs.lemmas.TakeLaws.{contents_first, contents_open}

-- the bytes before `at` are taken
pub record BytesWalked (rules : Rules) (begun begun' : List (List ℕ))
    (partial partial' bytes : List ℕ) (at : ℕ) (made made' : List ℕ) : Type 0 where
  pub within : at ≤ length bytes
  pub splits : (zs : List ℕ)
      → made ++ text_by rules (begun ++ contents_behind partial (bytes ++ zs))
      ≡ made' ++ text_by rules (begun' ++ contents_behind partial' (drop at bytes ++ zs))
  pub counts : (zs : List ℕ)
      → greatest_by rules (begun' ++ contents_behind partial' (drop at bytes ++ zs)) ≤ greatest_by
      rules (begun ++ contents_behind partial (bytes ++ zs))

pub bytes_none : (rules : Rules) (begun : List (List ℕ)) (partial bytes made : List ℕ)
    → BytesWalked rules begun begun partial partial bytes 0 made made
bytes_none rules begun partial bytes made =
    record { within = omega arith; splits = λ zs. refl; counts = λ zs. omega arith }

-- the next line, which this is the beginning of, and those after it
front_contents : (partial line bytes zs : List ℕ) (at k : ℕ) → FirstFrom bytes newline at k
    → line ≡ partial ++ take (k - at) (drop at bytes)
    → contents_behind partial (drop at bytes ++ zs)
    ≡ line ∷ contents_behind [] (drop (k + 1) bytes ++ zs)
front_contents partial line bytes zs at k f is = contents_first partial bytes zs at k f
    ∙ ap (λ (x : List ℕ). x ∷ contents_behind [] (drop (k + 1) bytes ++ zs)) (sym is)

-- one line more
pub bytes_more : (rules : Rules) (begun begun1 begun2 : List (List ℕ))
    (partial partial1 line bytes : List ℕ) (at k : ℕ) (made made1 made2 : List ℕ)
    → BytesWalked rules begun begun1 partial partial1 bytes at made made1
    → FirstFrom bytes newline at k → line ≡ partial1 ++ take (k - at) (drop at bytes)
    → TakesLine rules begun1 begun2 line made1 made2
    → BytesWalked rules begun begun2 partial [] bytes (k + 1) made made2
bytes_more rules begun begun1 begun2 partial partial1 line bytes at k made made1 made2 w f is t =
    record {
      within = omega (arith, f.within);
      splits = λ zs.
          let later = contents_behind [] (drop (k + 1) bytes ++ zs) in
          w.splits zs
          ∙ (ap (λ (ls : List (List ℕ)). made1 ++ text_by rules (begun1 ++ ls))
          (front_contents partial1 line bytes zs at k f is) ∙ t.splits later);
      counts = λ zs.
          let later = contents_behind [] (drop (k + 1) bytes ++ zs) in
          let e : greatest_by rules (begun1 ++ contents_behind partial1 (drop at bytes ++ zs))
          ≡ greatest_by rules (begun1 ++ line ∷ later) =
          ap (λ (ls : List (List ℕ)). greatest_by rules (begun1 ++ ls))
          (front_contents partial1 line bytes zs at k f is) in
          omega (arith, w.counts zs, t.counts later, e);
    }

-- that line is one too many
pub bytes_too_many : (rules : Rules) (begun begun1 : List (List ℕ))
    (partial partial1 line bytes : List ℕ) (at k : ℕ) (made made1 : List ℕ)
    → BytesWalked rules begun begun1 partial partial1 bytes at made made1
    → FirstFrom bytes newline at k → line ≡ partial1 ++ take (k - at) (drop at bytes)
    → IsOneTooMany rules begun1 line → AreTooMany rules begun partial bytes
bytes_too_many rules begun begun1 partial partial1 line bytes at k made made1 w f is t zs =
    let later = contents_behind [] (drop (k + 1) bytes ++ zs) in
    let e : greatest_by rules (begun1 ++ contents_behind partial1 (drop at bytes ++ zs))
    ≡ greatest_by rules (begun1 ++ line ∷ later) =
    ap (λ (ls : List (List ℕ)). greatest_by rules (begun1 ++ ls))
    (front_contents partial1 line bytes zs at k f is) in
    omega (arith, w.counts zs, t later, e)

-- no line ends in what is left
pub bytes_open : (rules : Rules) (begun begun1 : List (List ℕ))
    (partial partial1 partial2 bytes : List ℕ) (at : ℕ) (made made1 : List ℕ)
    → BytesWalked rules begun begun1 partial partial1 bytes at made made1
    → HasNoNewline (drop at bytes) → partial2 ≡ partial1 ++ drop at bytes
    → TakesBytes rules begun begun1 partial partial2 bytes made made1
bytes_open rules begun begun1 partial partial1 partial2 bytes at made made1 w none is =
    let e = λ (zs : List ℕ). contents_open partial1 (drop at bytes) zs none
    ∙ ap (λ (x : List ℕ). contents_behind x zs) (sym is) in
    record {
      splits = λ zs. w.splits zs
          ∙ ap (λ (ls : List (List ℕ)). made1 ++ text_by rules (begun1 ++ ls)) (e zs);
      counts = λ zs.
          let same : greatest_by rules (begun1 ++ contents_behind partial1 (drop at bytes ++ zs))
          ≡ greatest_by rules (begun1 ++ contents_behind partial2 zs) =
          ap (λ (ls : List (List ℕ)). greatest_by rules (begun1 ++ ls)) (e zs) in
          omega (arith, w.counts zs, same);
    }

-- what is left was taken too
pub bytes_rest : (rules : Rules) (begun begun1 begun2 : List (List ℕ))
    (partial partial1 partial2 bytes : List ℕ) (at : ℕ) (made made1 made2 : List ℕ)
    → BytesWalked rules begun begun1 partial partial1 bytes at made made1
    → TakesBytes rules begun1 begun2 partial1 partial2 (drop at bytes) made1 made2
    → TakesBytes rules begun begun2 partial partial2 bytes made made2
bytes_rest rules begun begun1 begun2 partial partial1 partial2 bytes at made made1 made2 w t =
    record {
      splits = λ zs. w.splits zs ∙ t.splits zs;
      counts =
          λ zs. omega (arith, w.counts zs, t.counts zs);
    }

pub rest_too_many : (rules : Rules) (begun begun1 : List (List ℕ)) (partial partial1 bytes : List ℕ)
    (at : ℕ) (made made1 : List ℕ)
    → BytesWalked rules begun begun1 partial partial1 bytes at made made1
    → AreTooMany rules begun1 partial1 (drop at bytes) → AreTooMany rules begun partial bytes
rest_too_many rules begun begun1 partial partial1 bytes at made made1 w t zs =
    omega (arith, w.counts zs, t zs)
