-- What is made of each line of an input that is cut at ends of lines.
use Rattle.std.proofs.Common.{◌≡◌, ℕ, List, [], ◌∷◌, ◌++◌, refl, ap, ◌∙◌, inl}
use Rattle.std.specs.List.{All, flat_map}
use Rattle.std.proofs.lemmas.List.Concat.{flat_map-append}
use Rattle.std.proofs.lemmas.List.Elements.{All-head, All-tail, All-cons, All-nil}
use Rattle.machine.specs.Lines.{IsLine, lines, newline}
use Rattle.part_laws.specs.Parts.{IsWholeLines}
use Rattle.part_laws.proofs.lemmas.CutLines.{lines_apart, whole_joined, whole_lines}

-- what is made of each line, one after another, is made of both parts
pub each_line_apart : (f : List ℕ → List ℕ) (x y : List ℕ) → IsWholeLines x
    → flat_map f (lines (x ++ y)) ≡ flat_map f (lines x) ++ flat_map f (lines y)
each_line_apart f x y w = ap (flat_map f) (lines_apart x y w)
    ∙ flat_map-append f (lines x) (lines y)

-- a newline is at its end
abbrev pub EndsLine : List ℕ → Type 0
EndsLine l = (front : List ℕ) × (l ≡ front ++ newline ∷ [])

-- what makes whole lines of each line makes whole lines of all
pub each_line_whole : (f : List ℕ → List ℕ) (P : List ℕ → Type 0)
    → ((l : List ℕ) → P l → IsWholeLines (f l)) → (ls : List (List ℕ)) → All P ls
    → IsWholeLines (flat_map f ls)
each_line_whole f P whole [] h = inl refl
each_line_whole f P whole (l ∷ ls) h = whole_joined (f l) (flat_map f ls)
    (whole l (All-head P l ls h)) (each_line_whole f P whole ls (All-tail P l ls h))

lines_end : (ls : List (List ℕ)) → All IsLine ls → All EndsLine ls
lines_end [] h = All-nil EndsLine
lines_end (l ∷ ls) h =
    let first = All-head IsLine l ls h in
    All-cons EndsLine l ls (first.0, first.2) (lines_end ls (All-tail IsLine l ls h))

-- each of whole lines ends with a newline
pub whole_lines_end : (x : List ℕ) → IsWholeLines x → All EndsLine (lines x)
whole_lines_end x w = lines_end (lines x) (whole_lines x w)
