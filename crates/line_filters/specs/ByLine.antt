-- Machines that make something of each line of their inputs, in order.
use Rattle.std.specs.Prelude.{◌≡◌, ℕ, List, [], ◌∷◌, ◌++◌, Option, Some, None, drop}
use Rattle.std.specs.List.{flat_map}
use Rattle.std.proofs.Common.{ap, drop_of_length-le}
use Rattle.machine.specs.InOrder.{in_order, in_order_lawful}
use Rattle.machine.specs.Law.{Shown, IsLawful}
use Rattle.machine.specs.Lines.{lines, led}
use Rattle.machine.specs.Whole.{inputs_from, present}
use Rattle.machine.specs.declared.protocol.Presence.{Presence}

-- What was made of the lines that end in these bytes is what is made of a line, whatever follows.
-- `partial` came before the bytes, and `partial'` comes before what follows.
pub record MakesLines (of_line : List ℕ
    → List ℕ) (partial partial' bytes made made' : List ℕ) : Type 0 where
  pub splits : (zs : List ℕ)
      → made ++ flat_map of_line (led partial (lines (bytes ++ zs)))
      ≡ made' ++ flat_map of_line (led partial' (lines zs))

-- Of these bytes was made what leaves `left'` to be made of what follows, if `left` was to be made
-- of all of it: whatever follows.
pub record Makes (left left' : List ℕ → List ℕ) (bytes made made' : List ℕ) : Type 0 where
  pub splits : (zs : List ℕ) → made ++ left (bytes ++ zs) ≡ made' ++ left' zs

-- what is made of the inputs that are left, if `left` is made of what is left of the first one
abbrev pub inputs_left : (List ℕ → List ℕ) → (List ℕ → List ℕ) → List (Option (List ℕ)) → List ℕ
inputs_left of_input left [] = []
inputs_left of_input left (None ∷ ins) = left [] ++ flat_map of_input (present ins)
inputs_left of_input left (Some x ∷ ins) = left x ++ flat_map of_input (present ins)

-- What a machine shows that makes this of each input: it wants its inputs in order, and what comes
-- on a missing one counts for nothing.
abbrev pub by_input :
    (List ℕ → List ℕ) → (List ℕ → List ℕ) → ℕ → List Presence → Shown
by_input of_input left at inputs =
    in_order inputs at (λ ys. inputs_left of_input left (inputs_from at (drop at inputs) ys))
    (λ ys. 0)

-- it obeys the law
pub by_input_lawful :
    (of_input left : List ℕ → List ℕ) (at : ℕ) (inputs : List Presence)
    → IsLawful (by_input of_input left at inputs)
by_input_lawful of_input left at inputs =
    in_order_lawful inputs at
    (λ ys. inputs_left of_input left (inputs_from at (drop at inputs) ys)) (λ ys. 0)
    (λ over ys. ap (λ (ps : List Presence). inputs_left of_input left (inputs_from at ps ys))
    (drop_of_length-le inputs over))
