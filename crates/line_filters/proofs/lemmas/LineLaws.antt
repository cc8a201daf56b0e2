-- Bytes that are taken line by line.
use Rattle.std.proofs.Common.{◌≡◌, ℕ, ◌+◌, ◌-◌, List, [], ◌++◌, length, take, drop, refl, ap, ◌∙◌}
use Rattle.std.proofs.Common.{sym, arith, append_assoc}
use Rattle.std.specs.List.{flat_map}
use Rattle.std.proofs.Math.Seq.{drop-length}
use Rattle.machine.specs.Lines.{lines, led, content, newline, HasNoNewline}
use Rattle.machine.proofs.LinesLaws.{lines-open, led-led, content-whole}
use Rattle.machine.proofs.PlaceLaws.{first_line}
use Rattle.line_filters.specs.inner.Walked.{Walked}
use Rattle.machine.specs.inner.Places.{FirstFrom}
use Rattle.lanes.specs.inner.Walks.{Course}
use Rattle.line_filters.proofs.lemmas.WalkedLaws.{as_walked}

pub walked_none : (of_line : List ℕ → List ℕ) (partial bytes made : List ℕ)
    → Walked of_line partial partial bytes 0 made made
walked_none of_line partial bytes made = record { within = omega arith; splits = λ zs. refl }

-- one line more, of whose content this was made
pub walked_more : (of_content : List ℕ → List ℕ) (partial partial1 partial2 bytes : List ℕ)
    (at k : ℕ) (made made1 made2 : List ℕ)
    → Walked (λ l. of_content (content l)) partial partial1 bytes at made made1
    → FirstFrom bytes newline at k
    → made2 ≡ made1 ++ of_content (partial1 ++ take (k - at) (drop at bytes)) → partial2 ≡ []
    → Walked (λ l. of_content (content l)) partial partial2 bytes (k + 1) made made2
walked_more of_content partial partial1 partial2 bytes at k made made1 made2 w f e none =
    let front = partial1 ++ take (k - at) (drop at bytes) in
    record {
      within = omega (arith, f.within);
      splits = λ zs.
          let later = flat_map (λ (l : List ℕ). of_content (content l))
          (lines (drop (k + 1) bytes ++ zs)) in
          w.splits zs
          ∙ (ap (λ (ls : List (List ℕ)). made1 ++ flat_map
          (λ (l : List ℕ). of_content (content l)) ls) (first_line partial1 bytes zs at k f)
          ∙ (ap (λ (x : List ℕ). made1 ++ (of_content x ++ later)) (content-whole front)
          ∙ (sym (append_assoc made1 (of_content front) later)
          ∙ (ap (λ (x : List ℕ). x ++ later) (sym e)
          ∙ ap (λ (x : List ℕ). made2 ++ flat_map (λ (l : List ℕ). of_content (content l))
          (led x (lines (drop (k + 1) bytes ++ zs)))) (sym none)))));
    }

-- the same if a walk over the newlines found the end of the line
pub walked_line : (of_content : List ℕ → List ℕ) (partial partial1 partial2 bytes rest : List ℕ)
    (ends : Course) (at end : ℕ) (made made1 made2 : List ℕ)
    → Walked (λ l. of_content (content l)) partial partial1 bytes at made made1 → ends.bytes ≡ bytes
    → ends.byte ≡ newline → ends.from ≡ at → FirstFrom ends.bytes ends.byte ends.from end
    → rest ≡ take (end - at) (drop at bytes) → made2 ≡ made1 ++ of_content (partial1 ++ rest)
    → partial2 ≡ [] → Walked (λ l. of_content (content l)) partial partial2 bytes
    (end + 1) made made2
walked_line of_content partial partial1 partial2 bytes rest ends at end made made1 made2 w b n f
    first r e none =
    walked_more of_content partial partial1 partial2 bytes at end made made1 made2 w
    (as_walked (λ d x k. FirstFrom x d k end) ends bytes newline at b n f first) (e
    ∙ ap (λ (x : List ℕ). made1 ++ of_content (partial1 ++ x)) r) none

-- no line ends in what is left
pub walked_to_end : (of_line : List ℕ → List ℕ) (partial partial1 partial2 bytes : List ℕ) (at : ℕ)
    (made made1 : List ℕ) → Walked of_line partial partial1 bytes at made made1
    → HasNoNewline (drop at bytes) → partial2 ≡ partial1 ++ drop at bytes
    → Walked of_line partial partial2 bytes (length bytes) made made1
walked_to_end of_line partial partial1 partial2 bytes at made made1 w none e =
    record {
      within = omega arith;
      splits = λ zs.
          w.splits zs
          ∙ (ap (λ (ls : List (List ℕ)). made1 ++ flat_map of_line ls)
          (ap (led partial1) (lines-open (drop at bytes) zs none)
          ∙ (led-led partial1 (drop at bytes) (lines zs)
          ∙ ap (λ (x : List ℕ). led x (lines zs)) (sym e)))
          ∙ ap (λ (x : List ℕ). made1 ++ flat_map of_line (led partial2 (lines (x ++ zs))))
          (sym (drop-length bytes)));
    }
