-- The lines of a stream: each goes up to and including a newline, the last one perhaps without
-- (POSIX.1-2017 XBD 3.206 Line, 3.195 Incomplete Line).
use Rattle.std.specs.Prelude.{◌≡◌, ℕ, ◌≤◌, false, List, [], ◌∷◌, ◌++◌, length, ◌==◌, if◌then◌else◌}
use Rattle.std.specs.Prelude.{◌⊎◌}
use Rattle.std.specs.List.{All, concat, onto_first}

-- the byte that ends a line
abbrev pub newline : ℕ
newline = 10

-- the lines
abbrev pub lines : List ℕ → List (List ℕ)
lines [] = []
lines (x ∷ xs) = if x == newline then (x ∷ []) ∷ lines xs else onto_first x (lines xs)

-- no byte is a newline
abbrev pub HasNoNewline : List ℕ → Type 0
HasNoNewline xs = All (λ x. (x == newline) ≡ false) xs

-- a line: a newline is at its end and nowhere else
abbrev pub IsLine : List ℕ → Type 0
IsLine l = (front : List ℕ) × HasNoNewline front × (l ≡ front ++ newline ∷ [])

-- an incomplete line: at least one byte, and no newline
abbrev pub IsIncompleteLine : List ℕ → Type 0
IsIncompleteLine l = (1 ≤ length l) × HasNoNewline l

-- lines, the last one perhaps incomplete
abbrev pub AreLines : List (List ℕ) → Type 0
AreLines [] = Unit {0}
AreLines (l ∷ []) = IsLine l ⊎ IsIncompleteLine l
AreLines (l ∷ m ∷ ls) = IsLine l × AreLines (m ∷ ls)

-- these are lines, and joined they are the stream
pub record AreLinesOf (stream : List ℕ) (ls : List (List ℕ)) : Type 0 where
  pub lines : AreLines ls
  pub joined : concat ls ≡ stream

-- a line without its newline
abbrev pub content : List ℕ → List ℕ
content [] = []
content (x ∷ []) = if x == newline then [] else x ∷ []
content (x ∷ y ∷ ys) = x ∷ content (y ∷ ys)

-- the lines of what follows, if the beginning of the first one comes before it
abbrev pub led : List ℕ → List (List ℕ) → List (List ℕ)
led [] ls = ls
led (x ∷ xs) [] = (x ∷ xs) ∷ []
led (x ∷ xs) (l ∷ ls) = ((x ∷ xs) ++ l) ∷ ls
