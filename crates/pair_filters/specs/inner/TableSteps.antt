-- Steps of paste through the cells of a table.
use Rattle.std.specs.Prelude.{◌≡◌, ℕ, ◌+◌, ◌-◌, ◌<◌, ◌≤◌, List, [], ◌∷◌, ◌++◌, Option, Bool, true}
use Rattle.std.specs.Prelude.{false, ◌||◌, length, drop, if◌then◌else◌}
use Rattle.machine.specs.Pieces.{Queued, contents}
use Rattle.pair_filters.specs.Intakes.{Left, intake, bytes_left, lines_with, AreOver, SameInputs}
use Rattle.commands.specs.Paste.{Lines}
use Rattle.pair_filters.specs.TableRows.{delimiters_below, still_written, still_behind}
use Rattle.pair_filters.specs.declared.table.Place.{Place}

-- what is still written from a place on
abbrev pub still_at : List (Option ℕ) → List ℕ → Place → Lines → List ℕ
still_at delimiters columns place lines =
    still_written delimiters columns place.column place.begun (drop place.column columns) lines

-- how many columns it can leave before a byte is used
abbrev pub columns_left : ℕ → Place → ℕ
columns_left columns place = (if place.begun then columns + 1 else 0) + (columns - place.column)

-- A row was begun if something of it can be written: the delimiters of the columns that were left
-- were appended.
pub record Begins (delimiters : List (Option ℕ)) (some : Bool) (place place' : Place)
    (made made' : List ℕ) : Type 0 where
  pub column : place'.column ≡ place.column
  pub begun : place'.begun ≡ (place.begun || some)
  pub added : made'
      ≡ made
      ++ (if place.begun then []
      else (if some then delimiters_below delimiters place.column else []))

-- What came of the cell of this input was appended: all of it if the cell has ended, otherwise its
-- beginning, whatever is still to come (ys), and whatever columns the row has left.
pub record PutsCell (delimiters : List (Option ℕ)) (input : ℕ) (old new : List Left)
    (place place' : Place) (ended : Bool) (made made' : List ℕ) : Type 0 where
  pub same : SameInputs old new
  pub column : place'.column ≡ place.column
  pub begun : place.begun ≡ true → place'.begun ≡ true
  pub fewer : bytes_left new ≤ bytes_left old
  pub begins : place.begun ≡ false → place'.begun ≡ true → bytes_left new < bytes_left old
  pub waits : ended ≡ false → (intake new input).closed ≡ false
  pub splits : (columns left : List ℕ) (ys : ℕ → List ℕ) → AreOver old ys
      → made
      ++ still_written delimiters columns place.column place.begun (input
      ∷ left) (lines_with old ys)
      ≡ made'
      ++ (if ended
      then still_behind delimiters columns place'.column place'.begun left (lines_with new ys)
      else still_written delimiters columns place'.column place'.begun (input
      ∷ left) (lines_with new ys))
  pub emptied : ended ≡ false → (intake new input).left ≡ []

-- The cell of a column was left, and what follows it was appended, whatever lines are still to
-- come.
pub record LeavesCell (delimiters : List (Option ℕ)) (columns : List ℕ) (place place' : Place)
    (made made' : List ℕ) : Type 0 where
  pub fewer : columns_left (length columns) place' < columns_left (length columns) place
  pub within : place'.column ≤ length columns
  pub splits : (lines : Lines)
      → made
      ++ still_behind delimiters columns place.column place.begun (drop (place.column
      + 1) columns) lines ≡ made' ++ still_at delimiters columns place' lines

-- whether nothing more can be written: the row has no column left, or waits for an input
abbrev pub IsSettled : List ℕ → List Left → Type 0
IsSettled [] intakes = Unit {0}
IsSettled (i ∷ left) intakes = (intake intakes i).closed ≡ false

-- Cells were written on from a place, whatever is still to come.
pub record WritesCells (delimiters : List (Option ℕ)) (columns : List ℕ) (old new : List Left)
    (place place' : Place) (made made' : List ℕ) : Type 0 where
  pub same : SameInputs old new
  pub splits : (ys : ℕ → List ℕ) → AreOver old ys
      → made ++ still_at delimiters columns place (lines_with old ys)
      ≡ made' ++ still_at delimiters columns place' (lines_with new ys)

-- A front of what was made was handed on, and the rest is kept.
pub record HandsOn (made made' : List ℕ) (out out' : Queued) : Type 0 where
  pub handed : List ℕ
  pub added : contents out' ≡ contents out ++ handed
  pub kept : made ≡ handed ++ made'

-- Cells were written on from a place, whatever is still to come. A front of what was made with them was handed on.
pub record PoursCells (delimiters : List (Option ℕ)) (columns : List ℕ) (old new : List Left)
    (place place' : Place) (made made' : List ℕ) (out out' : Queued) : Type 0 where
  pub handed : List ℕ
  pub added : contents out' ≡ contents out ++ handed
  pub written : WritesCells delimiters columns old new place place' made (handed ++ made')
