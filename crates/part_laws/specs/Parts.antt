-- The parts of an input that is cut at ends of lines.
--
-- A line goes up to and including a newline, and only the last one of a stream may lack it
-- (POSIX.1-2017 XBD 3.206 Line, 3.195 Incomplete Line).
use Rattle.std.specs.Prelude.{◌≡◌, ◌⊎◌, ℕ, List, [], ◌∷◌, ◌++◌, drop}
use Rattle.std.specs.List.{concat}
use Rattle.machine.specs.Lines.{lines, newline}

-- whole lines: it is empty or ends with a newline
abbrev pub IsWholeLines : List ℕ → Type 0
IsWholeLines x = (x ≡ []) ⊎ ((front : List ℕ) × (x ≡ front ++ newline ∷ []))

-- parts that are cut at ends of lines: each is whole lines, or nothing but empty parts follow it
abbrev pub AreCutAtLines : List (List ℕ) → Type 0
AreCutAtLines [] = Unit {0}
AreCutAtLines (part ∷ parts) = (IsWholeLines part ⊎ (concat parts ≡ [])) × AreCutAtLines parts

-- the lines of a stream after this many
abbrev pub lines_after : ℕ → List ℕ → List ℕ
lines_after n x = concat (drop n (lines x))
