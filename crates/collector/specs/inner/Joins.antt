-- What a sink takes to write it at once: the words of the contracts that are not public.
use Rattle.std.specs.Prelude.{◌≡◌, ℕ, ◌<◌, Bool, true, false, ◌||◌, List, [], ◌++◌}
use mathlib.Core.List.{IsPrefix}
use Rattle.machine.specs.declared.piece.Item.{Item}
use Rattle.machine.specs.declared.piece.Item.TheVariants.{Bytes, Close}
use Rattle.bounded_pipe.specs.Ends.{Reading, ReadsOn}
use Rattle.bounded_pipe.specs.Events.{SameReading}
use Rattle.bounded_pipe.specs.Pipes.{bytes_taken, is_at_end, events_of_reading}
use Rattle.collector.specs.Files.{WriteLog}
use Rattle.collector.specs.Nodes.{SinkShown}
use Rattle.run_types.specs.declared.node_state.NodeFault.TheVariants as faults
use Rattle.run_types.specs.declared.node_state.NodeState.{NodeState}
use Rattle.run_types.specs.declared.node_state.NodeState.TheVariants as states
use Rattle.run_types.specs.declared.step.Step.{Step}
use Rattle.run_types.specs.declared.step.Step.TheVariants as steps

-- the bytes of an item
abbrev pub item_bytes : Item → List ℕ
item_bytes (Bytes piece) = piece
item_bytes Close = []

-- whether an item is Close
abbrev pub is_last : Item → Bool
is_last (Bytes piece) = false
is_last Close = true

-- The reader took one item or more: these bytes, and Close or not.
pub record Took (old new : Reading) (bytes : List ℕ) (last : Bool) : Type 0 where
  pub goes_on : ReadsOn old new
  pub taken : bytes_taken new ≡ bytes_taken old ++ bytes
  pub end : is_at_end new ≡ (last || is_at_end old)
  pub stays : new.hung_up ≡ old.hung_up
  pub moved : events_of_reading old < events_of_reading new

-- Nothing is out, and the first of these bytes were written.
abbrev pub WritesFront : List ℕ → WriteLog → WriteLog → Type 0
WritesFront bytes old new = (front : List ℕ) × IsPrefix front bytes
    × (new ≡ record { bytes = old.bytes ++ front; out = [] })

-- These bytes were written or handed over, or a write failed after the first of them.
abbrev pub PassesOn : List ℕ → Step → WriteLog → WriteLog → Type 0
PassesOn bytes steps.Moved old new = new.bytes ++ new.out ≡ old.bytes ++ bytes
PassesOn bytes (steps.Waits pipe) old new = ⊥
PassesOn bytes steps.Ended old new = ⊥
PassesOn bytes steps.Broken old new = ⊥
PassesOn bytes steps.Failed old new = WritesFront bytes old new

-- the state of a sink after a step with this result
abbrev pub state_after : Step → NodeState
state_after steps.Moved = states.Running
state_after steps.Ended = states.Ended
state_after _ = states.Failed faults.WriteFault

-- What a sink that runs did of which nothing was out. It knew of no item and waits. Otherwise it
-- took these bytes, and wrote them or handed them over; or it took Close, and ended its output; or
-- a write failed after some of these bytes, or the end.
abbrev pub TakesNext : SinkShown → SinkShown → Step → WriteLog → WriteLog → Type 0
TakesNext x z steps.Moved old new = (bytes : List ℕ) × Took x.end z.end bytes false
    × (new.bytes ++ new.out ≡ old.bytes ++ bytes)
TakesNext x z (steps.Waits pipe) old new = (pipe ≡ x.pipe) × SameReading x.end z.end
    × ReadsOn x.end z.end × (x.end.known ≡ []) × (new ≡ old)
TakesNext x z steps.Ended old new = Took x.end z.end [] true × (new ≡ old)
TakesNext x z steps.Broken old new = ⊥
TakesNext x z steps.Failed old new = (bytes : List ℕ) × (last : Bool) × Took x.end z.end bytes last
    × WritesFront bytes old new

-- the state of a sink after it took what is next
abbrev pub state_next : Step → NodeState
state_next (steps.Waits pipe) = states.Running
state_next step = state_after step
