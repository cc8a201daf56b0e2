-- Filters that go line by line: cut and fold.
use Rattle.std.proofs.Common.{◌≡◌, ℕ, Bool, true, false, cond, List, [], ◌∷◌, ◌++◌, drop, length}
use Rattle.std.proofs.Common.{refl, ap, ◌∙◌, sym, subst, inl, inr}
use Rattle.std.specs.List.{flat_map, join_with_byte}
use Rattle.std.proofs.lemmas.List.{append-nil, drop_at}
use Rattle.machine.specs.Lines.{content, lines, newline}
use Rattle.machine.proofs.LinesLaws.{content-whole}
use Rattle.commands.specs.Cut.{cut_content, cut_line, fields, has_byte}
use Rattle.commands.specs.Fold.{folded_line, segments}
use Rattle.commands.specs.Selections.{is_selected, selected}
use Rattle.commands.specs.declared.cut_words.CutSpec.{CutSpec}
use Rattle.commands.specs.declared.cut_words.Parts.{Parts}
use Rattle.commands.specs.declared.cut_words.Parts.TheVariants.{Bytes, Fields}
use Rattle.commands.specs.declared.fold_words.FoldForm.{FoldForm}
use Rattle.commands.specs.declared.fold_words.FoldSpec.{FoldSpec}
use Rattle.commands.specs.declared.spec.FilterSpec.TheVariants as spec
use Rattle.part_laws.specs.Parts.{IsWholeLines}
use Rattle.part_laws.specs.Manners.{GoesByLines, KeepsLines, made_of}
use Rattle.part_laws.proofs.lemmas.LinesOfParts.{EndsLine, each_line_apart, each_line_whole}
use Rattle.part_laws.proofs.lemmas.LinesOfParts.{whole_lines_end}

-- ---- cut

abbrev of_line : CutSpec → List ℕ → List ℕ
of_line s = cut_line (is_selected s.ranges) s.parts

-- what cut writes
pub cut_plain : (s : CutSpec) (x : List ℕ) → made_of (spec.Cut s) x ≡ flat_map (of_line s) (lines x)
cut_plain s x = ap (flat_map (of_line s)) (append-nil (lines x))

-- cut goes line by line
pub cut_by_lines : (s : CutSpec) → GoesByLines (spec.Cut s)
cut_by_lines s x y w =
    cut_plain s (x ++ y)
    ∙ (each_line_apart (of_line s) x y w
    ∙ (ap (λ (z : List ℕ). z ++ flat_map (of_line s) (lines y)) (sym (cut_plain s x))
    ∙ ap (λ (z : List ℕ). made_of (spec.Cut s) x ++ z) (sym (cut_plain s y))))

line_or_none : (left_out : Bool) (xs : List ℕ)
    → IsWholeLines (cond left_out [] (xs ++ newline ∷ []))
line_or_none true xs = inl refl
line_or_none false xs = inr (xs, refl)

fields_or_line : (has only : Bool) (joined xs : List ℕ)
    → IsWholeLines (cond has (joined ++ newline ∷ []) (cond only [] (xs ++ newline ∷ [])))
fields_or_line true only joined xs = inr (joined, refl)
fields_or_line false only joined xs = line_or_none only xs

-- what cut writes of a line is a line or nothing
content_whole : (selects : ℕ → Bool) (parts : Parts) (xs : List ℕ)
    → IsWholeLines (cut_content selects parts xs)
content_whole selects Bytes xs = inr (selected selects xs, refl)
content_whole selects (Fields delimiter only) xs =
    fields_or_line (has_byte delimiter xs) only
    (join_with_byte delimiter (selected selects (fields delimiter xs))) xs

-- cut makes whole lines of whole lines
pub cut_keeps_lines : (s : CutSpec) → KeepsLines (spec.Cut s)
cut_keeps_lines s x w =
    subst IsWholeLines (sym (cut_plain s x))
    (each_line_whole (of_line s) EndsLine
    (λ l e. content_whole (is_selected s.ranges) s.parts (content l)) (lines x)
    (whole_lines_end x w))

-- ---- fold

fold_plain : (s : FoldSpec) (x : List ℕ) → made_of (spec.Fold s) x
    ≡ flat_map (folded_line s.form) (lines x)
fold_plain s x = append-nil (flat_map (folded_line s.form) (lines x))

-- fold goes line by line
pub fold_by_lines : (s : FoldSpec) → GoesByLines (spec.Fold s)
fold_by_lines s x y w =
    fold_plain s (x ++ y)
    ∙ (each_line_apart (folded_line s.form) x y w
    ∙ (ap (λ (z : List ℕ). z ++ flat_map (folded_line s.form) (lines y)) (sym (fold_plain s x))
    ∙ ap (λ (z : List ℕ). made_of (spec.Fold s) x ++ z) (sym (fold_plain s y))))

folded_end : (form : FoldForm) (front : List ℕ)
    → folded_line form (front ++ newline ∷ []) ≡ segments form front ++ newline ∷ []
folded_end form front =
    ap (λ (c : List ℕ). segments form c ++ drop (length c) (front ++ newline ∷ []))
    (content-whole front)
    ∙ ap (λ (z : List ℕ). segments form front ++ z)
    (drop_at front (newline ∷ []) (length front) refl)

-- a folded line ends as the line does
folded_whole : (form : FoldForm) (l : List ℕ) → EndsLine l → IsWholeLines (folded_line form l)
folded_whole form l e = inr (segments form e.0, ap (folded_line form) e.1 ∙ folded_end form e.0)

-- fold makes whole lines of whole lines
pub fold_keeps_lines : (s : FoldSpec) → KeepsLines (spec.Fold s)
fold_keeps_lines s x w =
    subst IsWholeLines (sym (fold_plain s x))
    (each_line_whole (folded_line s.form) EndsLine (folded_whole s.form) (lines x)
    (whole_lines_end x w))
