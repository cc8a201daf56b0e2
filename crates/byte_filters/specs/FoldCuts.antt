-- Where fold cuts a line, as the standard says it (POSIX.1-2017 XCU fold, DESCRIPTION and OPTIONS).
use Rattle.std.specs.Prelude.{◌≡◌, ◌<◌, ◌≤◌, ◌-◌, ◌*◌, ◌⊎◌, ℕ, List, [], ◌∷◌, true, false, length}
use Rattle.std.specs.Prelude.{slice_index, take}
use Rattle.std.specs.List.{All, flat_map, join_with_byte, prefix_len}
use Rattle.machine.specs.Lines.{newline}
use Rattle.commands.specs.declared.fold_words.FoldForm.{FoldForm}
use Rattle.commands.specs.Fold.{columns, fits, is_back, segments}

-- the column after each byte is within the width
abbrev pub IsWithin : FoldForm → List ℕ → Type 0
IsWithin spec part = prefix_len (fits spec) (columns spec 0 part) ≡ length part

-- a backspace or a carriage return is among these bytes
abbrev pub HasBack : List ℕ → Type 0
HasBack part = (k : ℕ) × (k < length part) × (is_back (slice_index part k) ≡ true)

-- A segment is within the width, or it is one byte. Or it has a backspace or a carriage return and
-- bytes are not counted: then it may grow, since no line is cut next to one of them.
abbrev pub IsSegment : FoldForm → List ℕ → Type 0
IsSegment spec part = IsWithin spec part
    ⊎ ((length part ≡ 1) ⊎ ((spec.bytes ≡ false) × HasBack part))

-- neither the last byte of one segment nor the first one of the next is a backspace or a carriage
-- return
abbrev pub IsApart : List ℕ → List ℕ → Type 0
IsApart part next = (is_back (slice_index part (length part - 1)) ≡ false)
    × (is_back (slice_index next 0) ≡ false)

abbrev pub AreApart : List (List ℕ) → Type 0
AreApart [] = Unit {0}
AreApart (part ∷ []) = Unit {0}
AreApart (part ∷ next ∷ parts) = IsApart part next × AreApart (next ∷ parts)

-- The segments into which a line's content is cut: joined they are the content; they are written
-- with a newline between each two.
pub record AreSegmentsOf (spec : FoldForm) (line : List ℕ) (parts : List (List ℕ)) : Type 0 where
  pub joined : flat_map (λ part. part) parts ≡ line
  pub written : segments spec line ≡ join_with_byte newline parts
  pub sized : All (IsSegment spec) parts
  pub apart : spec.bytes ≡ false → AreApart parts

-- fold cuts these bytes of a line nowhere: they are one segment, or none
abbrev pub IsUncut : FoldForm → List ℕ → Type 0
IsUncut spec part = segments spec part ≡ part

-- these bytes of a line begin with one segment of k bytes, and it has at least half of them
pub record IsHalf (spec : FoldForm) (held : List ℕ) (k : ℕ) : Type 0 where
  pub within : k ≤ length held
  pub half : length held ≤ 2 * k
  pub uncut : IsUncut spec (take k held)

-- every line's content is cut so
abbrev pub LinesAreCut : Type 0
LinesAreCut = (spec : FoldForm) (line : List ℕ)
    → (parts : List (List ℕ)) × AreSegmentsOf spec line parts
