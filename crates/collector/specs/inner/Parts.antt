-- What the parts of a step do: the words of the contracts that are not public.
use Rattle.std.specs.Prelude.{◌≡◌, ℕ, length, Bool, true, false, not, ◌&&◌, List, ◌++◌, Option, Some, None}
use Rattle.std.specs.Prelude.{is_some, is_none, Result, Ok, Err}
use mathlib.Core.List.{IsPrefix}
use Rattle.machine.specs.declared.piece.Item.{Item}
use Rattle.machine.specs.declared.piece.Item.TheVariants.{Bytes, Close}
use Rattle.bounded_pipe.specs.Ends.{KnowsFull, WritesOn, ReadsOn}
use Rattle.bounded_pipe.specs.Events.{Puts, SameWriting}
use Rattle.collector.specs.Files.{FilesShown, ReadLog, ReadsAtMost}
use Rattle.collector.specs.Nodes.{SourceShown, SinkShown, SourceFits, SameSource, SameSink, read_by}
use Rattle.collector.specs.Nodes.{ReadsOwn}
use Rattle.run_types.specs.declared.node_state.NodeFault.{NodeFault}
use Rattle.run_types.specs.declared.node_state.NodeFault.TheVariants as faults
use Rattle.run_types.specs.declared.node_state.NodeState.{NodeState}
use Rattle.run_types.specs.declared.node_state.NodeState.TheVariants as states
use Rattle.run_types.specs.declared.step.Step.{Step}
use Rattle.run_types.specs.declared.step.Step.TheVariants as steps

-- whether a source has a file to read, and owes nothing
abbrev pub reads_on : SourceShown → Bool
reads_on x = is_some x.file && is_none x.held && not x.at_end

-- A read gave the piece, or the end, or failed; what was read and found no memory is in the log all
-- the same.
abbrev pub Fetches : Result (Option (List ℕ)) NodeFault → ReadLog → ReadLog → Type 0
Fetches (Ok (Some piece)) old new = (new.bytes ≡ old.bytes ++ piece) × (new.at_end ≡ old.at_end)
Fetches (Ok None) old new = (new.bytes ≡ old.bytes) × (new.at_end ≡ true)
Fetches (Err fault) old new = IsPrefix old.bytes new.bytes × (new.at_end ≡ old.at_end)

-- One read of at most this many bytes gave this.
pub record ReadsOnce (most : ℕ) (result : Result (Option (List ℕ)) NodeFault) (old new : ReadLog)
    : Type 0 where
  pub fetches : Fetches result old new
  pub within : ReadsAtMost most old new

-- A source with this file reads that file alone, and at most `block` bytes of it.
pub record ReadsFile (block : ℕ) (file : Option ℕ) (old new : FilesShown) : Type 0 where
  pub own : ReadsOwn file old new
  pub most : ReadsAtMost block (read_by old file) (read_by new file)

-- It is the same source, and its end goes on.
pub record SourceGoesOn (old new : SourceShown) : Type 0 where
  pub same : SameSource old new
  pub end : WritesOn old.end new.end

-- It is the same sink, and its end goes on.
pub record SinkGoesOn (old new : SinkShown) : Type 0 where
  pub same : SameSink old new
  pub end : ReadsOn old.end new.end

-- the source that has this item in hand, to be put: with a piece it is as if it held it
abbrev pub with_item : Item → SourceShown → SourceShown
with_item (Bytes piece) x = record x { held = Some piece }
with_item Close x = x

-- The source fits what its reads gave: with the item in hand, or once it has failed.
abbrev pub ItemFits : Result Item NodeFault → ReadLog → SourceShown → Type 0
ItemFits (Ok item) log x = SourceFits log (with_item item x)
ItemFits (Err fault) log x = SourceFits log (record x { state = states.Failed fault })

-- a piece was put, or is held again
abbrev pub OffersPiece : List ℕ → SourceShown → SourceShown → Step → Type 0
OffersPiece piece old new steps.Moved = Puts (Bytes piece) old.end new.end
    × (new ≡ record old { end = new.end })
OffersPiece piece old new (steps.Waits pipe) =
    (pipe ≡ old.pipe) × KnowsFull (length piece) old.end × SameWriting old.end new.end
    × (new ≡ record old {
      end = new.end;
      held = Some piece;
    })
OffersPiece piece old new steps.Ended = ⊥
OffersPiece piece old new steps.Broken = ⊥
OffersPiece piece old new steps.Failed = ⊥

-- Close was put, or the source is as it was
abbrev pub OffersClose : SourceShown → SourceShown → Step → Type 0
OffersClose old new steps.Moved = ⊥
OffersClose old new (steps.Waits pipe) = (pipe ≡ old.pipe) × KnowsFull 0 old.end
    × SameWriting old.end new.end × (new ≡ record old { end = new.end })
OffersClose old new steps.Ended = Puts Close old.end new.end × (new ≡ record old {
  end = new.end;
  state = states.Ended;
})
OffersClose old new steps.Broken = ⊥
OffersClose old new steps.Failed = ⊥

-- the state of a sink that has settled, or failed to
abbrev pub state_settled : Bool → NodeState
state_settled true = states.Running
state_settled false = states.Failed faults.WriteFault

-- the state of a sink once its output is ended, or that has failed
abbrev pub state_finished : Step → NodeState
state_finished steps.Ended = states.Ended
state_finished _ = states.Failed faults.WriteFault

-- its output is ended, or that has failed
abbrev pub IsFinishAnswer : Step → Type 0
IsFinishAnswer steps.Moved = ⊥
IsFinishAnswer (steps.Waits pipe) = ⊥
IsFinishAnswer steps.Ended = Unit {0}
IsFinishAnswer steps.Broken = ⊥
IsFinishAnswer steps.Failed = Unit {0}
