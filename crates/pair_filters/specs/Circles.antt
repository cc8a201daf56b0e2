-- Bytes that go in a circle, and take the places of newlines one after another.
use Rattle.std.specs.Prelude.{◌≡◌, ℕ, ◌+◌, ◌<◌, ◌==◌, List, [], ◌∷◌, Option, Bool, true, false, not}
use Rattle.std.specs.Prelude.{length, slice_index_or, if◌then◌else◌}
use Rattle.machine.specs.Lines.{newline}
use Rattle.commands.specs.Delimiters.{delimiter}
use Rattle.pair_filters.specs.declared.table.Place.{Place}

-- the number after k in a circle of n
abbrev pub after : ℕ → ℕ → ℕ
after n k = if k + 1 == n then 0 else k + 1

-- bytes in which each newline gives its place to a byte of the circle, the first one to that with
-- number k
abbrev pub put_in : List ℕ → ℕ → List ℕ → List ℕ
put_in circle k [] = []
put_in circle k (x ∷ xs) =
    if x == newline then slice_index_or circle k 0 ∷ put_in circle (after (length circle) k) xs
    else x ∷ put_in circle k xs

-- the number of the byte for the first newline after these bytes
abbrev pub number_after : ℕ → ℕ → List ℕ → ℕ
number_after n k [] = k
number_after n k (x ∷ xs) = if x == newline then number_after n (after n k) xs
    else number_after n k xs

-- whether a newline is at the end
abbrev pub ends_line : List ℕ → Bool
ends_line [] = false
ends_line (x ∷ []) = x == newline
ends_line (x ∷ y ∷ ys) = ends_line (y ∷ ys)

-- The delimiters between the cells of a row and the newline after it, if each column is of one
-- input and no delimiter is empty. It is a circle: each newline of the input gives its place to the
-- next of these bytes.
pub record IsRow (delimiters : List (Option ℕ)) (columns circle : List ℕ) : Type 0 where
  pub long : length circle ≡ length columns
  pub same : (k : ℕ) → k < length columns → slice_index_or columns k 0 ≡ slice_index_or columns 0 0
  pub between : (k : ℕ) → k + 1 < length columns
      → delimiter delimiters k ≡ slice_index_or circle k 0 ∷ []
  pub last : (k : ℕ) → k + 1 ≡ length columns → slice_index_or circle k 0 ≡ newline

-- the place after these bytes of the only input, in rows of n columns
abbrev pub place_after : ℕ → Place → List ℕ → Place
place_after n place [] = place
place_after n place (x ∷ xs) =
    if x == newline then place_after n (record {
      column = after n place.column;
      begun = not (place.column + 1 == n);
    }) xs
    else place_after n (record place { begun = true }) xs
