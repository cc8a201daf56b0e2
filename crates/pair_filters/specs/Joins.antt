-- Lines that paste -s joins as their pieces come.
use Rattle.std.specs.Prelude.{◌≡◌, ℕ, false, List, [], ◌∷◌, ◌++◌, Option, Some, None, map}
use Rattle.std.specs.Prelude.{if◌then◌else◌}
use Rattle.machine.specs.Lines.{lines, content, newline}
use Rattle.commands.specs.Delimiters.{behind, joined_from}
use Rattle.pair_filters.specs.declared.serial.Joint.{Joint}

-- the contents of lines that are joined to what is written
abbrev pub joined_on : List (Option ℕ) → Joint → List (List ℕ) → List ℕ
joined_on delimiters joint cells = if joint.due then behind delimiters joint.next cells
    else joined_from delimiters joint.next cells

-- the same of an input, and the newline after them; nothing of one that is missing
abbrev pub line_on : List (Option ℕ) → Joint → Option (List ℕ) → List ℕ
line_on delimiters joint None = []
line_on delimiters joint (Some x) = joined_on delimiters joint (map content (lines x)) ++ newline
    ∷ []

-- before the first line of an input
abbrev pub no_line : Joint
no_line = record { next = 0; due = false }

-- These bytes were joined to what is written, whatever follows.
pub record JoinsBytes (delimiters : List (Option ℕ)) (joint joint' : Joint)
    (bytes made made' : List ℕ) : Type 0 where
  pub splits : (zs : List ℕ)
      → made ++ joined_on delimiters joint (map content (lines (bytes ++ zs)))
      ≡ made' ++ joined_on delimiters joint' (map content (lines zs))

-- The delimiter that was due was appended, whatever line follows.
pub record PutsDue (delimiters : List (Option ℕ)) (joint joint' : Joint) (made made' : List ℕ) :
    Type 0 where
  pub due : joint'.due ≡ false
  pub splits : (cell : List ℕ) (cells : List (List ℕ))
      → made ++ joined_on delimiters joint (cell ∷ cells)
      ≡ made' ++ joined_on delimiters joint' (cell ∷ cells)
