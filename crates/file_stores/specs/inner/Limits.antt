-- The bytes that a reader has left, if a limit is set on their lines.
use Rattle.std.specs.Prelude.{ℕ, List, Option, Some, None}
use Rattle.std.specs.Option.{option_map}
use Rattle.machine.specs.FrontLines.{first_lines}

-- the first lines of what is left, if there is a limit, and all of it otherwise
abbrev pub limited : Option ℕ → Option (List ℕ) → Option (List ℕ)
limited None left = left
limited (Some n) left = option_map (first_lines n) left

-- what is known if there is no limit
abbrev pub unlimited : {X : Type 0} → Option ℕ → Option X → Option X
unlimited None known = known
unlimited (Some n) known = None
