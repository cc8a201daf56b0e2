-- What paste writes of whole inputs (POSIX.1-2017 XCU paste, DESCRIPTION and OPTIONS): a table of
-- one column per operand, or with -s one line per operand.
--
-- A column is the number of its input, and several columns may be of one input, which is standard
-- input.
use Rattle.std.specs.Prelude.{ℕ, ◌+◌, ◌*◌, ◌==◌, Bool, List, [], Option, Some, None, is_none}
use Rattle.std.specs.Prelude.{length, take, map, max, count_by, slice_index_or, if◌then◌else◌}
use Rattle.std.specs.List.{flat_map, fold, list_any, enumerate_from, range_with_len}
use Rattle.std.specs.Int.{div_ceil}
use Rattle.machine.specs.Lines.{lines, content}
use Rattle.machine.specs.Whole.{unless_missing, WholeAnswer}
use Rattle.commands.specs.Delimiters.{row}

-- what is on each input: none if it is missing, or if there is no such input
abbrev pub Inputs : Type 0
Inputs = ℕ → Option (List ℕ)

-- the input with this number
abbrev pub input : List (Option (List ℕ)) → Inputs
input ins i = slice_index_or ins i None

-- the lines of each input
abbrev pub Lines : Type 0
Lines = ℕ → List (List ℕ)

-- the lines of what is on an input
abbrev pub lines_in : Option (List ℕ) → List (List ℕ)
lines_in None = []
lines_in (Some x) = lines x

abbrev pub lines_of : Inputs → Lines
lines_of ins i = lines_in (ins i)

-- how many of these columns are of this input
abbrev pub places : List ℕ → ℕ → ℕ
places columns i = count_by (λ x. x == i) columns

-- The cell in row r of the column at place p.0, which is of input p.1: the j-th of its k columns
-- has its lines j, k + j, 2k + j and so on, all counted from 0. A missing line is empty.
abbrev pub cell : List ℕ → Lines → ℕ → ℕ × ℕ → List ℕ
cell columns lines r p =
    content (slice_index_or (lines p.1) (r * places columns p.1 + places (take p.0 columns) p.1) [])

-- how many rows the lines of an input fill: one for each k lines, and the last row may have fewer
abbrev pub rows_of : List ℕ → Lines → ℕ → ℕ
rows_of columns lines i = div_ceil (length (lines i)) (places columns i)

-- how many rows there are: as many as the longest column has lines
abbrev pub rows : List ℕ → Lines → ℕ
rows columns lines = fold (λ n i. max n (rows_of columns lines i)) 0 columns

-- row r of the table
abbrev pub table_row : List (Option ℕ) → List ℕ → Lines → ℕ → List ℕ
table_row delimiters columns lines r =
    row delimiters (map (cell columns lines r) (enumerate_from 0 columns))

-- the rows of the table, one after another
abbrev pub table : List (Option ℕ) → List ℕ → Lines → List ℕ
table delimiters columns lines =
    flat_map (table_row delimiters columns lines) (range_with_len 0 (rows columns lines))

-- whether one of these columns is of this input
abbrev pub has_column : List ℕ → ℕ → Bool
has_column columns i = list_any (λ x. x == i) columns

-- What is written with -s of the operand at place p.0, which is of input p.1: a line of the
-- contents of its lines. No lines are left to an operand whose input came before.
abbrev pub operand : List (Option ℕ) → List ℕ → Inputs → ℕ × ℕ → List ℕ
operand delimiters columns ins p =
    if is_none (ins p.1) then []
    else row delimiters (map content (if has_column (take p.0 columns) p.1 then []
    else lines_of ins p.1))

-- the same of all operands
abbrev pub serial : List (Option ℕ) → List ℕ → Inputs → List ℕ
serial delimiters columns ins = flat_map (operand delimiters columns ins) (enumerate_from 0 columns)

-- the whole answer of paste
abbrev pub paste_whole : List (Option ℕ) → Bool → List ℕ → WholeAnswer
paste_whole delimiters is_serial columns ins =
    record {
      out = if is_serial then serial delimiters columns (input ins)
          else unless_missing ins (table delimiters columns (lines_of (input ins)));
      count = 0;
    }
