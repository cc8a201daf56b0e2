-- The files of a run: which were opened and how that was answered, what the reads of each gave,
-- what the writes took, what each file holds, and what each open input held.
--
-- A read gives the bytes that follow those of the read before it, and none at the end of the file;
-- a write may take fewer bytes than were handed to it, and then the first of them (POSIX.1-2017 XSH
-- open, read, write).
use Rattle.std.specs.Prelude.{◌≡◌, ◌≢◌, ℕ, ◌+◌, ◌-◌, ◌^◌, ◌<◌, ◌≤◌, Bool, true, false, ◌⊎◌, List}
use Rattle.std.specs.Prelude.{[], ◌∷◌, ◌++◌, length, Option, Some, None, IsSome, unwrap_or, min}
use Rattle.std.specs.Prelude.{if◌then◌else◌}
use Rattle.std.specs.List.{concat}
use mathlib.Core.List.{IsPrefix}
use Rattle.run_types.specs.declared.names.InName.{InName}
use Rattle.run_types.specs.declared.names.InName.TheVariants as in_names
use Rattle.run_types.specs.declared.names.OutName.{OutName}
use Rattle.run_types.specs.Destinations.{Destination, FileOf, destination_of, is_kept}
use Rattle.collector.specs.declared.needed.LeftOut.{LeftOut}
use Rattle.collector.specs.declared.needed.LeftOut.TheVariants.{Nothing}
use Rattle.collector.specs.declared.batch.Batch.{Batch}
use Rattle.collector.specs.declared.batch.Batch.TheVariants.{Joined, Single, Several}
use Rattle.collector.specs.declared.names.Opening.{Opening}
use Rattle.collector.specs.declared.names.Opening.TheVariants.{Input, Output}

-- what the reads of one opening gave, in order, and whether one of them gave the end
pub record ReadLog : Type 0 where
  pub bytes : List ℕ
  pub at_end : Bool

-- nothing was read
abbrev pub nothing_read : ReadLog
nothing_read = record { bytes = []; at_end = false }

-- what the writes of one opening took, in order, and what was handed over to be written after that
-- and may not be written yet
pub record WriteLog : Type 0 where
  pub bytes : List ℕ
  pub out : List ℕ

-- nothing was written, and nothing handed over
abbrev pub nothing_written : WriteLog
nothing_written = record { bytes = []; out = [] }

-- the bytes of a batch
abbrev pub batch_bytes : Batch → List ℕ
batch_bytes (Joined bytes) = bytes.items
batch_bytes (Single piece) = piece
batch_bytes (Several pieces) = concat pieces

-- What files show of themselves: the openings that were answered, oldest first; by the number of an
-- open input what its reads gave; by that of an open output what its writes took and what is out,
-- and what it writes to; what the standard output and the file of each name hold, and what the standard input
-- has to give; by the number of an open input what it has to give, of what its file held when it
-- was opened; and how many reads and writes have failed. What is not known is None, as what is not
-- there. By the number of an open input also whether a front of it was left out. The outputs may be
-- held back until they are put in place. Then `contents` says what a file holds once that is done,
-- and `in_place` what the file of each name holds until then.
pub record FilesShown : Type 0 where
  pub openings : List Opening
  pub inputs : ℕ → Option ReadLog
  pub outputs : ℕ → Option WriteLog
  pub targets : ℕ → Option Destination
  pub contents : Destination → Option (List ℕ)
  pub standard_input : Option (List ℕ)
  pub held : ℕ → Option (List ℕ)
  pub left_out : ℕ → LeftOut
  pub failures : ℕ
  pub held_back : Bool
  pub in_place : List ℕ → Option (List ℕ)

-- what an input of this name gives if it is opened now, if that is known
abbrev pub content_for : FilesShown → InName → Option (List ℕ)
content_for s in_names.Standard = s.standard_input
content_for s (in_names.File name) = s.contents (FileOf name)

-- what the reads of the file gave
abbrev pub reads_of : FilesShown → ℕ → ReadLog
reads_of s file = unwrap_or (s.inputs file) nothing_read

-- what the writes of the file took, and what is out
abbrev pub log_of : FilesShown → ℕ → WriteLog
log_of s file = unwrap_or (s.outputs file) nothing_written

-- what the writes of the file took
abbrev pub writes_of : FilesShown → ℕ → List ℕ
writes_of s file = (log_of s file).bytes

-- what was handed over to be written to the file, and may not be written yet
abbrev pub out_of : FilesShown → ℕ → List ℕ
out_of s file = (log_of s file).out

-- each file has the log that it had
abbrev pub SameLogs : {L : Type 0} → (ℕ → Option L) → (ℕ → Option L) → Type 0
SameLogs old new = (file : ℕ) → new file ≡ old file

-- each file but this one has the log that it had
abbrev pub OtherLogs : {L : Type 0} → ℕ → (ℕ → Option L) → (ℕ → Option L) → Type 0
OtherLogs own old new = (file : ℕ) → file ≢ own → new file ≡ old file

-- Outputs are held back if they were, and while they are, the file of each name holds in its place
-- what it held.
pub record SamePlaces (old new : FilesShown) : Type 0 where
  pub held_back : new.held_back ≡ old.held_back
  pub in_place : old.held_back ≡ true → (name : List ℕ) → new.in_place name ≡ old.in_place name

-- Each destination holds what it held, in its place too, and each output writes to what it wrote
-- to.
pub record SameContents (old new : FilesShown) : Type 0 where
  pub targets : SameLogs old.targets new.targets
  pub contents : (d : Destination) → new.contents d ≡ old.contents d
  pub places : SamePlaces old new

-- what the standard input has to give, and what each open input held, is as it was, and so is what
-- was left out of it
pub record SameHeld (old new : FilesShown) : Type 0 where
  pub standard_input : new.standard_input ≡ old.standard_input
  pub held : SameLogs old.held new.held
  pub left_out : (file : ℕ) → new.left_out file ≡ old.left_out file

-- What the reads of an input gave is a prefix of what it had to give, and all of that if they gave
-- the end.
pub record AreReadsOf (held : List ℕ) (log : ReadLog) : Type 0 where
  pub begins : IsPrefix log.bytes held
  pub whole : log.at_end ≡ true → log.bytes ≡ held

-- If what an input has to give is known, its reads still give that: they are consecutive parts of
-- it, and the end comes at its end.
abbrev pub ReadOnInHeld : ℕ → FilesShown → FilesShown → Type 0
ReadOnInHeld file old new = (content : List ℕ) → old.held file ≡ Some content
    → AreReadsOf content (reads_of old file) → AreReadsOf content (reads_of new file)

-- what an opening leaves of what a destination held: all of it if that is kept, otherwise nothing
abbrev pub left_of : Bool → Option (List ℕ) → List ℕ
left_of keep held = if keep then unwrap_or held [] else []

-- nothing was opened, read or written
pub record SameFiles (old new : FilesShown) : Type 0 where
  pub openings : new.openings ≡ old.openings
  pub inputs : SameLogs old.inputs new.inputs
  pub outputs : SameLogs old.outputs new.outputs
  pub contents : SameContents old new
  pub held : SameHeld old new

-- An input was opened, and has a number that no open input had; nothing of it has been read, and
-- nothing was left out.
pub record OpensInput (name : InName) (file : ℕ) (old new : FilesShown) : Type 0 where
  pub openings : new.openings ≡ old.openings ++ Input name (Some file) ∷ []
  pub number : old.inputs file ≡ None
  pub log : new.inputs file ≡ Some nothing_read
  pub inputs : OtherLogs file old.inputs new.inputs
  pub outputs : SameLogs old.outputs new.outputs
  pub contents : SameContents old new
  pub standard_input : new.standard_input ≡ old.standard_input
  pub held : OtherLogs file old.held new.held
  pub whole : new.left_out file ≡ Nothing
  pub left_out : (other : ℕ) → other ≢ file → new.left_out other ≡ old.left_out other
  pub failures : new.failures ≡ old.failures

-- The input that was opened has to give what the file of its name holds, and that is known.
pub record OpensHeld (name : InName) (file : ℕ) (old new : FilesShown) : Type 0 where
  pub content : List ℕ
  pub given : content_for old name ≡ Some content
  pub held : new.held file ≡ Some content

-- An output was opened, and has a number that no open output had; nothing has been written to it.
pub record OpensOutput (name : OutName) (file : ℕ) (old new : FilesShown) : Type 0 where
  pub openings : new.openings ≡ old.openings ++ Output name (Some file) ∷ []
  pub number : old.outputs file ≡ None
  pub log : new.outputs file ≡ Some nothing_written
  pub inputs : SameLogs old.inputs new.inputs
  pub outputs : OtherLogs file old.outputs new.outputs
  pub targets : OtherLogs file old.targets new.targets
  pub held : SameHeld old new
  pub failures : new.failures ≡ old.failures
  pub places : SamePlaces old new

-- The output that was opened writes to the destination of its name. What that held is kept if the
-- output appends, and is lost otherwise. Every other destination holds what it held.
pub record OpensDestination (name : OutName) (file : ℕ) (old new : FilesShown) : Type 0 where
  pub target : new.targets file ≡ Some (destination_of name)
  pub content : new.contents (destination_of name)
      ≡ Some (left_of (is_kept name) (old.contents (destination_of name)))
  pub others : (d : Destination) → d ≢ destination_of name → new.contents d ≡ old.contents d

-- an opening was refused
pub record Refuses (opening : Opening) (old new : FilesShown) : Type 0 where
  pub openings : new.openings ≡ old.openings ++ opening ∷ []
  pub inputs : SameLogs old.inputs new.inputs
  pub outputs : SameLogs old.outputs new.outputs
  pub contents : SameContents old new
  pub held : SameHeld old new
  pub failures : new.failures ≡ old.failures

-- nothing was opened, for want of memory
pub record OpensNothing (old new : FilesShown) : Type 0 where
  pub same : SameFiles old new
  pub failures : new.failures ≡ old.failures

-- what the reads of a file gave goes on: with more bytes, unless they had given the end
pub record ReadsGoOn (old new : ReadLog) : Type 0 where
  pub bytes : IsPrefix old.bytes new.bytes
  pub ended : old.at_end ≡ true → new ≡ old

-- No log but that of this input changed. It is still open, and its log goes on, in what it held if
-- that is known. Each destination holds what it held.
pub record ReadsOnly (file : ℕ) (old new : FilesShown) : Type 0 where
  pub openings : new.openings ≡ old.openings
  pub still : IsSome (new.inputs file)
  pub goes_on : ReadsGoOn (reads_of old file) (reads_of new file)
  pub inputs : OtherLogs file old.inputs new.inputs
  pub outputs : SameLogs old.outputs new.outputs
  pub contents : SameContents old new
  pub held : SameHeld old new
  pub reads : ReadOnInHeld file old new

-- The writes of an output took more bytes, and the destination that it writes to has them after
-- what it held.
pub record Grows (file : ℕ) (old new : FilesShown) : Type 0 where
  pub more : List ℕ
  pub log : writes_of new file ≡ writes_of old file ++ more
  pub content : (d : Destination) (held : List ℕ) → old.targets file ≡ Some d
      → old.contents d ≡ Some held → new.contents d ≡ Some (held ++ more)

-- No log but that of this output changed. It is still open, and its log and its destination grew by
-- the same bytes. Every other destination holds what it held.
pub record WritesOnly (file : ℕ) (old new : FilesShown) : Type 0 where
  pub openings : new.openings ≡ old.openings
  pub still : IsSome (new.outputs file)
  pub grows : Grows file old new
  pub inputs : SameLogs old.inputs new.inputs
  pub outputs : OtherLogs file old.outputs new.outputs
  pub targets : SameLogs old.targets new.targets
  pub held : SameHeld old new
  pub others : (d : Destination) → (old.targets file ≡ Some d → ⊥) → new.contents d ≡ old.contents d
  pub places : SamePlaces old new

-- These bytes were handed over, to be written after what was written before. None of them counts as
-- written yet. Nothing else was out.
pub record HandsOver (file : ℕ) (bytes : List ℕ) (old new : FilesShown) : Type 0 where
  pub only : WritesOnly file old new
  pub free : out_of old file ≡ []
  pub log : new.outputs file ≡ Some (record { bytes = writes_of old file; out = bytes })
  pub failures : new.failures ≡ old.failures

-- all that was out is written
abbrev pub SettlesAll : WriteLog → WriteLog → Type 0
SettlesAll old new = new ≡ record { bytes = old.bytes ++ old.out; out = [] }

-- Nothing is out any more. Of what was, the first bytes are written, and the write of the others
-- failed.
abbrev pub SettlesSome : WriteLog → WriteLog → Type 0
SettlesSome old new = (front : List ℕ) × IsPrefix front old.out
    × (new ≡ record { bytes = old.bytes ++ front; out = [] })

-- A read with room for this many bytes returned these: they follow what earlier reads returned. If
-- there was room and it returned none, that is the end. After the end every read returns none.
pub record Reads (room : ℕ) (given : List ℕ) (old new : ReadLog) : Type 0 where
  pub bytes : new.bytes ≡ old.bytes ++ given
  pub end : 0 < room → given ≡ [] → new.at_end ≡ true
  pub goes_on : (0 < length given) ⊎ (room ≡ 0) → new.at_end ≡ old.at_end
  pub after : old.at_end ≡ true → given ≡ []

-- the reads gave at most this many bytes more
abbrev pub ReadsAtMost : ℕ → ReadLog → ReadLog → Type 0
ReadsAtMost most old new = length new.bytes ≤ length old.bytes + most

-- the number of failures after one more, which stays at its last value
abbrev pub one_more : ℕ → ℕ
one_more failures = min (failures + 1) (2 ^ 64 - 1)

-- ---- what a run leaves of the files that are not its own

-- of these outputs no other writes to this destination
abbrev pub IsSoleWriter : (ℕ → Type 0) → FilesShown → ℕ → Destination → Type 0
IsSoleWriter outs files file d = (other : ℕ) → outs other → files.targets other ≡ Some d
    → other ≡ file

-- Nothing was opened. No input but these was read, and no output but these was written. What was
-- read and written goes on, and the reads of an input in what it held. A destination that none of
-- them writes to holds what it held; one that a single output writes to grew by what that took.
pub record TouchesOnly (ins outs : ℕ → Type 0) (old new : FilesShown) : Type 0 where
  pub openings : new.openings ≡ old.openings
  pub inputs : (file : ℕ) → (ins file → ⊥) → new.inputs file ≡ old.inputs file
  pub outputs : (file : ℕ) → (outs file → ⊥) → new.outputs file ≡ old.outputs file
  pub reads : (file : ℕ) → ReadsGoOn (reads_of old file) (reads_of new file)
  pub held : SameHeld old new
  pub in_held : (file : ℕ) → ReadOnInHeld file old new
  pub writes : (file : ℕ) → IsPrefix (writes_of old file) (writes_of new file)
  pub targets : SameLogs old.targets new.targets
  pub places : SamePlaces old new
  pub untouched : (d : Destination) → ((file : ℕ) → outs file → old.targets file ≡ Some d → ⊥)
      → new.contents d ≡ old.contents d
  pub grown : (file : ℕ) (d : Destination) → old.targets file ≡ Some d
      → IsSoleWriter outs old file d → Grows file old new
