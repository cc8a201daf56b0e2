-- The parts that the code takes.
use Rattle.std.proofs.Common.{◌≡◌, ℕ, ◌+◌, ◌≤◌, List, [], ◌∷◌, ◌++◌, Bool, true, false, get_or}
use Rattle.std.proofs.Common.{drop, take, length, refl, ap, ◌∙◌, sym, subst, arith, eqb}
use Rattle.std.proofs.Common.{append_assoc, length-drop}
use Rattle.std.proofs.lemmas.List.{drop-drop}
use Rattle.std.specs.Prelude.{if◌then◌else◌}
use Rattle.std.proofs.lemmas.List.Elements.{All-nil}
use Rattle.machine.specs.Lines.{newline, HasNoNewline}
use Rattle.commands.specs.declared.fold_words.FoldForm.{FoldForm}
use Rattle.byte_filters.specs.declared.segment.Scan.{Scan}
use Rattle.byte_filters.specs.declared.segment.SegmentEnd.{SegmentEnd}
use Rattle.byte_filters.specs.declared.segment.SegmentEnd.TheVariants.{Cut, Line, Open}
use Rattle.commands.specs.Fold.{folded}
use Rattle.byte_filters.specs.inner.Scans.{Folds, IsPart, begun, column_within, scanned}
use Rattle.byte_filters.proofs.lemmas.FoldLaws.{part_cut, part_line, rest_plain, rest_stays}
use Rattle.byte_filters.proofs.lemmas.FoldLaws.{at_of_scan}

-- what was scanned after the first byte
pub record HasScanned (spec : FoldForm) (bytes : List ℕ) (s : Scan) (o : SegmentEnd) : Type 0 where
  pub some : 1 ≤ length bytes
  pub plain : eqb (get_or bytes 0 0) newline ≡ false
  pub scan : s ≡ begun spec (get_or bytes 0 0)
  pub outcome : o ≡ scanned spec s (drop (s.at + 1) bytes)

from_first : (spec : FoldForm) (x : ℕ) (xs : List ℕ) (s : Scan) → s ≡ begun spec x
    → scanned spec s (drop (s.at + 1) (x ∷ xs)) ≡ scanned spec (begun spec x) xs
from_first spec x xs s e =
    ap (λ (t : Scan). scanned spec t (drop (t.at + 1) (x ∷ xs))) e
    ∙ ap (λ (n : ℕ). scanned spec (begun spec x) (drop (n + 1) (x ∷ xs)))
    (at_of_scan (column_within spec 0 x) x 0 0)

pub cut_part : (spec : FoldForm) (bytes : List ℕ) (s : Scan) (k : ℕ)
    → HasScanned spec bytes s (Cut k) → IsPart spec bytes k true
cut_part spec [] s k h = let f = h.some in absurd (omega arith)
cut_part spec (x ∷ xs) s k h = part_cut spec x xs k h.plain
    (sym (h.outcome ∙ from_first spec x xs s h.scan))

pub line_part : (spec : FoldForm) (bytes : List ℕ) (s : Scan) (k : ℕ)
    → HasScanned spec bytes s (Line k) → IsPart spec bytes (k + 1) false
line_part spec [] s k h = let f = h.some in absurd (omega arith)
line_part spec (x ∷ xs) s k h = part_line spec x xs k h.plain
    (sym (h.outcome ∙ from_first spec x xs s h.scan))

pub open_part : (spec : FoldForm) (bytes : List ℕ) (s t : Scan) → HasScanned spec bytes s (Open t)
    → folded spec bytes ≡ bytes
open_part spec [] s t h = refl
open_part spec (x ∷ xs) s t h = rest_stays spec x xs t h.plain
    (sym (h.outcome ∙ from_first spec x xs s h.scan))

pub part_plain : (spec : FoldForm) (bytes : List ℕ) (s t : Scan) → HasScanned spec bytes s (Open t)
    → HasNoNewline bytes
part_plain spec [] s t h = All-nil (λ x. eqb x newline ≡ false)
part_plain spec (x ∷ xs) s t h = rest_plain spec x xs t h.plain
    (sym (h.outcome ∙ from_first spec x xs s h.scan))

-- the first `at` bytes were folded
pub record HasFolded (spec : FoldForm) (bytes : List ℕ) (at : ℕ) (made made' : List ℕ) :
    Type 0 where
  pub within : at ≤ length bytes
  pub goes_on : (ys : List ℕ) → made ++ folded spec (bytes ++ ys)
      ≡ made' ++ folded spec (drop at bytes ++ ys)

-- they are those of one part more
pub one_part_more : (spec : FoldForm) (bytes made text text' rest front' : List ℕ) (at count : ℕ)
    (cut : Bool) → rest ≡ drop at bytes → IsPart spec rest count cut → front' ≡ take count rest
    → text' ≡ text ++ (front' ++ (if cut then newline ∷ [] else []))
    → HasFolded spec bytes at made text → HasFolded spec bytes (at + count) made text'
one_part_more spec bytes made text text' rest front' at count cut e p f t h =
    let q : IsPart spec (drop at bytes) count cut =
    subst (λ (r : List ℕ). IsPart spec r count cut) e p in
    let within : count ≤ length (drop at bytes) = q.within in
    let was : at ≤ length bytes = h.within in
    let put : text' ≡ text ++ (take count (drop at bytes) ++ (if cut then newline ∷ [] else [])) = t
    ∙ ap (λ (z : List ℕ). text ++ (z ++ (if cut then newline ∷ [] else []))) (f
    ∙ ap (take count) e) in
    record {
      within = omega (arith, length-drop at bytes);
      goes_on = λ ys.
          h.goes_on ys
          ∙ (ap (λ (z : List ℕ). text ++ z) (q.goes_on ys)
          ∙ (sym
          (append_assoc text (take count (drop at bytes) ++ (if cut then newline ∷ [] else []))
          (folded spec (drop count (drop at bytes) ++ ys)))
          ∙ (ap (λ (z : List ℕ). z ++ folded spec (drop count (drop at bytes) ++ ys)) (sym put)
          ∙ ap (λ (z : List ℕ). text' ++ folded spec (z ++ ys)) (drop-drop count at bytes))));
    }

-- those of bytes more that were folded
pub some_more : (spec : FoldForm) (bytes line left made text text' : List ℕ) (at count : ℕ)
    → line ≡ drop at bytes → left ≡ drop count line → count ≤ length line
    → Folds spec line left text text' → HasFolded spec bytes at made text
    → HasFolded spec bytes (at + count) made text'
some_more spec bytes line left made text text' at count e l within f h =
    let was : at ≤ length bytes = h.within in
    let long = ap length e in
    record {
      within = omega (arith, length-drop at bytes, long);
      goes_on = λ ys.
          h.goes_on ys
          ∙ (ap (λ (z : List ℕ). text ++ folded spec (z ++ ys)) (sym e)
          ∙ (f.goes_on ys ∙ ap (λ (z : List ℕ). text' ++ folded spec (z ++ ys)) (l
          ∙ (ap (drop count) e ∙ drop-drop count at bytes))));
    }
