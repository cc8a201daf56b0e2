-- What is left of inputs after pieces came and lines were taken.
use Rattle.std.specs.Prelude.{◌≡◌, ℕ, ◌≤◌, ◌<◌, List, [], ◌∷◌, ◌++◌, Bool, true, false, length}
use Rattle.std.specs.Prelude.{Option, Some, None, drop, slice_index_or, sum_by}
use Rattle.machine.specs.Lines.{lines, content}
use Rattle.commands.specs.Paste.{Lines}

-- the bytes of a piece, or none if there is no piece
abbrev pub held : Option (List ℕ) → List ℕ
held None = []
held (Some piece) = piece

-- what came of an input and is not used, and whether the input has ended
pub record Left : Type 0 where
  pub left : List ℕ
  pub closed : Bool

-- an input that is not there has ended, and nothing is left of it
abbrev pub over : Left
over = record { left = []; closed = true }

-- the intake of the input with this number
abbrev pub intake : List Left → ℕ → Left
intake intakes i = slice_index_or intakes i over

-- how many bytes are left of all inputs
abbrev pub bytes_left : List Left → ℕ
bytes_left intakes = sum_by (λ (s : Left). length s.left) intakes

-- the lines of the inputs, if ys is still to come on them
abbrev pub lines_with : List Left → (ℕ → List ℕ) → Lines
lines_with intakes ys i = lines ((intake intakes i).left ++ ys i)

-- nothing is still to come if the input has ended
abbrev pub IsOver : Left → List ℕ → Type 0
IsOver s zs = s.closed ≡ true → zs ≡ []

-- the same of all inputs
abbrev pub AreOver : List Left → (ℕ → List ℕ) → Type 0
AreOver intakes ys = (i : ℕ) → IsOver (intake intakes i) (ys i)

-- the inputs are as many, and the same of them have ended
pub record SameInputs (old new : List Left) : Type 0 where
  pub count : length new ≡ length old
  pub closed : (i : ℕ) → (intake new i).closed ≡ (intake old i).closed

-- what is left of the input of the first of these columns
abbrev pub first_left : List ℕ → List Left → List ℕ
first_left [] intakes = []
first_left (i ∷ columns) intakes = (intake intakes i).left

-- the first of these lines, or an empty one
abbrev pub first : List (List ℕ) → List ℕ
first ls = slice_index_or ls 0 []

-- What came of the next line's content was appended: all of it if the line has ended, otherwise its
-- beginning, whatever is still to come (zs).
pub record PutsLine (old new : Left) (ended : Bool) (made made' : List ℕ) : Type 0 where
  pub part : List ℕ
  pub added : made' ≡ made ++ part
  pub closed : new.closed ≡ old.closed
  pub fewer : length new.left ≤ length old.left
  pub some : (old.left ≡ [] → ⊥) → length new.left < length old.left
  pub none : old.left ≡ [] → part ≡ []
  pub over : ended ≡ true → old.left ≡ [] → old.closed ≡ true
  pub waits : ended ≡ false → old.closed ≡ false
  pub cell : ended ≡ true → (zs : List ℕ) → IsOver old zs
      → content (first (lines (old.left ++ zs))) ≡ part
  pub later : ended ≡ true → (zs : List ℕ) → IsOver old zs
      → drop 1 (lines (old.left ++ zs)) ≡ lines (new.left ++ zs)
  pub cell_on : ended ≡ false → (zs : List ℕ)
      → content (first (lines (old.left ++ zs))) ≡ part ++ content (first (lines (new.left ++ zs)))
  pub later_on : ended ≡ false → (zs : List ℕ)
      → drop 1 (lines (old.left ++ zs)) ≡ drop 1 (lines (new.left ++ zs))
  pub emptied : ended ≡ false → new.left ≡ []
