-- Where the file of an output is, as contracts see it.
use Rattle.std.specs.Prelude.{ℕ, ◌≤◌, Bool, true, false, List, [], length, Option, None}
use Rattle.waiting_outputs.specs.declared.output.State.{State}
use Rattle.waiting_outputs.specs.declared.output.State.TheVariants as state

-- what the file holds after the last answer, where that is known
abbrev pub held_in : {F : Type 0} → (F → Option (List ℕ)) → State F → Option (List ℕ)
held_in contents (state.Here file) = contents file
held_in contents (state.Out owing) = owing.before
held_in contents state.Lost = None

-- the piece that has no answer yet
abbrev pub out_in : {F : Type 0} → State F → List ℕ
out_in (state.Here file) = []
out_in (state.Out owing) = owing.bytes
out_in state.Lost = []

-- whether a piece has no answer yet
abbrev pub is_out_in : {F : Type 0} → State F → Bool
is_out_in (state.Here file) = false
is_out_in (state.Out owing) = true
is_out_in state.Lost = false

-- if something has no answer yet, that is a byte at least
abbrev pub HasOut : {F : Type 0} → State F → Type 0
HasOut (state.Here file) = Unit {0}
HasOut (state.Out owing) = 1 ≤ length owing.bytes
HasOut state.Lost = Unit {0}
