-- Whole runs of a filter: what its inputs are, what it writes of them, and its exit status.
--
-- An operand that cannot be opened is a missing input. It counts for nothing, and the exit status
-- then is 1 (POSIX.1-2017 XCU 1.4, EXIT STATUS and CONSEQUENCES OF ERRORS).
use Rattle.std.specs.Prelude.{ℕ, ◌+◌, List, [], ◌∷◌, Bool, Option, Some, None, is_none}
use Rattle.std.specs.Prelude.{if◌then◌else◌}
use Rattle.std.specs.List.{concat, list_any, filter_map}
use Rattle.machine.specs.declared.protocol.Presence.{Presence}
use Rattle.machine.specs.declared.protocol.Presence.TheVariants.{Present, Missing}

-- the inputs from number i on, with the contents ys: a list of bytes, or none if the input is
-- missing
abbrev pub inputs_from : ℕ → List Presence → (ℕ → List ℕ) → List (Option (List ℕ))
inputs_from i [] ys = []
inputs_from i (Present ∷ inputs) ys = Some (ys i) ∷ inputs_from (i + 1) inputs ys
inputs_from i (Missing ∷ inputs) ys = None ∷ inputs_from (i + 1) inputs ys

-- all the inputs
abbrev pub inputs_of : List Presence → (ℕ → List ℕ) → List (Option (List ℕ))
inputs_of inputs ys = inputs_from 0 inputs ys

-- the inputs that are present
abbrev pub present : List (Option (List ℕ)) → List (List ℕ)
present ins = filter_map (λ x. x) ins

-- the present inputs, one after another
abbrev pub joined : List (Option (List ℕ)) → List ℕ
joined ins = concat (present ins)

-- whether an input is missing
abbrev pub is_some_missing : List (Option (List ℕ)) → Bool
is_some_missing ins = list_any is_none ins

-- these bytes, or nothing if an input is missing
abbrev pub unless_missing : List (Option (List ℕ)) → List ℕ → List ℕ
unless_missing ins out = if is_some_missing ins then [] else out

-- the exit status of every filter
abbrev pub status_of : List (Option (List ℕ)) → ℕ
status_of ins = if is_some_missing ins then 1 else 0

-- what a filter makes of whole inputs
pub record Answer : Type 0 where
  -- the bytes that it writes
  pub out : List ℕ
  -- the greatest count among the numbers that it writes of its input, 0 if it writes none
  pub count : ℕ

-- a filter, as what it makes of whole inputs; a missing input is none
abbrev pub WholeAnswer : Type 0
WholeAnswer = List (Option (List ℕ)) → Answer

-- all that the present inputs hold, one input after another
abbrev pub joined_answer : WholeAnswer
joined_answer ins = record { out = joined ins; count = 0 }

-- a filter, as what it makes of what comes on its inputs, by their numbers
abbrev pub StreamAnswer : Type 0
StreamAnswer = (ℕ → List ℕ) → Answer
