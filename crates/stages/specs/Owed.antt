-- What a stage owes to its branches.
--
-- tee writes each byte to all of its files before it goes on (POSIX.1-2017 XCU tee), and a write to
-- a full pipe waits until a reader has made room (XSH write; pipe(7)).
use Rattle.std.specs.Prelude.{ℕ, length, ◌||◌, ◌&&◌, not, Bool, true, false, List, [], ◌∷◌, is_some}
use Rattle.std.specs.Prelude.{if◌then◌else◌}
use Rattle.std.specs.List.{list_any}
use Rattle.machine.specs.declared.protocol.Want.{Want}
use Rattle.machine.specs.declared.protocol.Want.TheVariants.{Take, Finished}
use Rattle.bounded_pipe.specs.Ends.{Writing}
use Rattle.bounded_pipe.specs.Pipes.{is_closed}
use Rattle.splice_tee.specs.BranchStates.{is_open, is_lacking}
use Rattle.splice_tee.specs.declared.branches.Served.{Served}
use Rattle.stages.specs.Stages.{StagePart, front_size}

-- whether a machine has finished
abbrev pub is_finished : Want → Bool
is_finished Finished = true
is_finished (Take input) = false

-- whether there is a piece among these
abbrev pub is_some_owed : List (List ℕ) → Bool
is_some_owed [] = false
is_some_owed (piece ∷ owed) = true

-- whether some branch still lacks the front item
abbrev pub is_front_owed : StagePart → Bool
is_front_owed x = is_some x.front && list_any is_lacking x.served

-- the number of bytes of the first of these pieces
abbrev pub first_size : List (List ℕ) → ℕ
first_size [] = 0
first_size (piece ∷ owed) = length piece

-- The number of bytes of the item that a stage owes: the front item while some branch lacks it,
-- then the next piece, and after the last piece Close.
abbrev pub owed_size : StagePart → ℕ
owed_size x = if is_front_owed x then front_size x.front else first_size x.owed

-- Whether a stage owes a branch an item: the front item, as long as some branch lacks it; after
-- that the next piece; and after the last piece Close, once its machine has finished.
abbrev pub branch_owed : StagePart → Writing → Served → Bool
branch_owed x w s =
    if is_front_owed x
    then is_lacking s
    else is_open s && (is_some_owed x.owed || (is_finished x.machine.wanted && not (is_closed w)))
