-- Cells with delimiters between them (POSIX.1-2017 XCU paste, OPTIONS, -d: the elements of the list
-- replace the newlines one after another, and begin again when the list is exhausted).
use Rattle.std.specs.Prelude.{ℕ, ◌%◌, List, [], ◌∷◌, ◌++◌, Option, Some, None, length}
use Rattle.std.specs.Prelude.{slice_index_or}
use Rattle.std.specs.List.{flat_map, enumerate_from}
use Rattle.machine.specs.Lines.{newline}

-- the bytes of a delimiter: it is a byte, or the empty string
abbrev pub byte_of : Option ℕ → List ℕ
byte_of None = []
byte_of (Some byte) = byte ∷ []

-- the delimiter with number k, if they go in a circle from 0 on
abbrev pub delimiter : List (Option ℕ) → ℕ → List ℕ
delimiter delimiters k = byte_of (slice_index_or delimiters (k % length delimiters) None)

-- cells, each after its delimiter; the first one has number k
abbrev pub behind : List (Option ℕ) → ℕ → List (List ℕ) → List ℕ
behind delimiters k cells =
    flat_map (λ (p : ℕ × List ℕ). delimiter delimiters p.0 ++ p.1) (enumerate_from k cells)

-- cells with delimiters between them; the first one has number k
abbrev pub joined_from : List (Option ℕ) → ℕ → List (List ℕ) → List ℕ
joined_from delimiters k [] = []
joined_from delimiters k (cell ∷ cells) = cell ++ behind delimiters k cells

-- a line of these cells
abbrev pub row : List (Option ℕ) → List (List ℕ) → List ℕ
row delimiters cells = joined_from delimiters 0 cells ++ newline ∷ []
