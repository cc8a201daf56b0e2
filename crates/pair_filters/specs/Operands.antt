-- The operands of paste -s, one after another.
use Rattle.std.specs.Prelude.{◌≡◌, ℕ, List, [], ◌∷◌, ◌++◌, Option, Some, None, Bool, true, not}
use Rattle.std.specs.Prelude.{◌&&◌, nat_lt, length, take, drop, slice_index_or}
use Rattle.std.specs.List.{flat_map, enumerate_from}
use Rattle.machine.specs.Lines.{newline}
use Rattle.machine.specs.declared.protocol.Presence.{Presence}
use Rattle.machine.specs.declared.protocol.Presence.TheVariants.{Present, Missing}
use Rattle.commands.specs.Paste.{Inputs, operand, has_column}

-- what is on an input, by whether it is missing
abbrev pub by_presence : Presence → List ℕ → Option (List ℕ)
by_presence Present x = Some x
by_presence Missing x = None

-- what is on each input: none if there is no such input
abbrev pub inputs_on : List Presence → (ℕ → List ℕ) → Inputs
inputs_on inputs ys i = by_presence (slice_index_or inputs i Missing) (ys i)

-- whether this column is the first one of an input that is there
abbrev pub is_first : List ℕ → ℕ → ℕ → ℕ → Bool
is_first columns count column i = nat_lt i count && not (has_column (take column columns) i)

-- the same of the first of these columns, if there is one
abbrev pub is_at_first : List ℕ → ℕ → ℕ → List ℕ → Bool
is_at_first columns count column [] = true
is_at_first columns count column (i ∷ left) = is_first columns count column i

-- what is written of the operands from this column on
abbrev pub operands_from : List (Option ℕ) → List ℕ → Inputs → ℕ → List ℕ
operands_from delimiters columns ins column =
    flat_map (operand delimiters columns ins) (enumerate_from column (drop column columns))

-- what is written of an operand whose input came before
abbrev pub repeated_line : Presence → List ℕ
repeated_line Present = newline ∷ []
repeated_line Missing = []

-- Operands that are not the first ones of their inputs were passed, and what is written of them was
-- appended, whatever is on the inputs.
pub record PassesOperands (delimiters : List (Option ℕ)) (columns : List ℕ)
    (inputs : List Presence) (column column' : ℕ) (made made' : List ℕ) : Type 0 where
  pub closed : (j : ℕ)
      → (nat_lt j (length inputs) && has_column (take column' columns) j)
      ≡ (nat_lt j (length inputs) && has_column (take column columns) j)
  pub splits : (ys : ℕ → List ℕ)
      → made ++ operands_from delimiters columns (inputs_on inputs ys) column
      ≡ made' ++ operands_from delimiters columns (inputs_on inputs ys) column'
