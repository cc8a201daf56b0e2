-- What paste still writes of a table, by its place in a row.
use Rattle.std.specs.Prelude.{ℕ, ◌+◌, ◌==◌, List, [], ◌∷◌, ◌++◌, Option, Bool, false, not, drop}
use Rattle.std.specs.Prelude.{length, if◌then◌else◌}
use Rattle.std.specs.List.{flat_map, list_any, range_with_len}
use Rattle.machine.specs.Lines.{content, newline}
use Rattle.commands.specs.Delimiters.{delimiter, behind, joined_from}
use Rattle.pair_filters.specs.Intakes.{first}
use Rattle.commands.specs.Paste.{Lines, table}

-- the lines without the first one of input i
abbrev pub without : ℕ → Lines → Lines
without i lines j = if i == j then drop 1 (lines j) else lines j

-- the cells of these columns in the row that comes first
abbrev pub cells : List ℕ → Lines → List (List ℕ)
cells [] lines = []
cells (i ∷ columns) lines = content (first (lines i)) ∷ cells columns (without i lines)

-- the lines after those of that row
abbrev pub behind_row : List ℕ → Lines → Lines
behind_row [] lines = lines
behind_row (i ∷ columns) lines = behind_row columns (without i lines)

-- whether one of these columns has a line
abbrev pub have_line : List ℕ → Lines → Bool
have_line columns lines = list_any (λ i. not (length (lines i) == 0)) columns

-- the row whose columns from number k on are these, and the rows after it
abbrev pub row_on : List (Option ℕ) → List ℕ → ℕ → List ℕ → Lines → List ℕ
row_on delimiters columns k left lines =
    joined_from delimiters k (cells left lines) ++ newline
    ∷ table delimiters columns (behind_row left lines)

-- the delimiters with numbers below k
abbrev pub delimiters_below : List (Option ℕ) → ℕ → List ℕ
delimiters_below delimiters k = flat_map (delimiter delimiters) (range_with_len 0 k)

-- What is still written if the row is at column k, and has these columns left. Before anything of
-- the row is written there is such a row only if one of them has a line.
abbrev pub still_written : List (Option ℕ) → List ℕ → ℕ → Bool → List ℕ → Lines → List ℕ
still_written delimiters columns k begun [] lines = []
still_written delimiters columns k begun (i ∷ left) lines =
    if begun then row_on delimiters columns k (i ∷ left) lines
    else (if have_line (i ∷ left) lines
    then delimiters_below delimiters k ++ row_on delimiters columns k (i ∷ left) lines else [])

-- what is still written after the cell of column k
abbrev pub still_behind : List (Option ℕ) → List ℕ → ℕ → Bool → List ℕ → Lines → List ℕ
still_behind delimiters columns k begun left lines =
    if begun
    then behind delimiters k (cells left lines) ++ newline
    ∷ table delimiters columns (behind_row left lines)
    else still_written delimiters columns (k + 1) false left lines
