-- Bytes that are handed on piece by piece.
use Rattle.std.proofs.Common.{◌≡◌, ℕ, List, [], ◌++◌, ap, ◌∙◌, sym, append_assoc, append-nil}

-- a piece more was handed on
pub handed_on : (to to' piece rest whole : List ℕ) → to' ≡ to ++ piece
    → to ++ (piece ++ rest) ≡ whole → to' ++ rest ≡ whole
handed_on to to' piece rest whole e h = ap (λ (x : List ℕ). x ++ rest) e
    ∙ (append_assoc to piece rest ∙ h)

-- all bytes were
pub handed_two : (out out' out'' before last : List ℕ) → out' ≡ out ++ before → out'' ≡ out' ++ last
    → out'' ≡ out ++ (before ++ last)
handed_two out out' out'' before last e f = f
    ∙ (ap (λ (x : List ℕ). x ++ last) e ∙ append_assoc out before last)

-- a line after these bytes
pub line_put : (before last line before1 before2 : List ℕ) → before1 ≡ before ++ last
    → before2 ≡ before1 ++ line → before2 ++ [] ≡ (before ++ last) ++ line
line_put before last line before1 before2 e f = append-nil before2
    ∙ (f ∙ ap (λ (x : List ℕ). x ++ line) e)

-- the end of a line was cut off before others
pub end_cut : (line front end ends whole : List ℕ) → line ≡ front ++ end → whole ≡ line ++ ends
    → whole ≡ front ++ (end ++ ends)
end_cut line front end ends whole e h = h
    ∙ (ap (λ (x : List ℕ). x ++ ends) e ∙ append_assoc front end ends)

-- the front of a line was added, and then its ends
pub line_added : (to to1 to2 front ends whole : List ℕ) → to1 ≡ to ++ front → to2 ≡ to1 ++ ends
    → whole ≡ front ++ ends → to2 ≡ to ++ whole
line_added to to1 to2 front ends whole e f w = handed_two to to1 to2 front ends e f
    ∙ ap (λ (x : List ℕ). to ++ x) (sym w)
