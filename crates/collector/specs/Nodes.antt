-- What a source and a sink show of themselves, what each keeps from step to step, and what the
-- result of a step says.
--
-- A source reads its file from the beginning and writes what it read to a pipe; a write to a full
-- pipe waits, and one to a pipe that nobody reads is broken. A sink reads a pipe to its end and
-- writes what it read to its file; a read of an empty pipe that is still open waits (POSIX.1-2017
-- XSH read, write; pipe(7)).
use Rattle.std.specs.Prelude.{◌≡◌, ◌≢◌, ℕ, ◌<◌, ◌⊎◌, Bool, true, false, List, [], Option, Some}
use Rattle.std.specs.Prelude.{None, is_none}
use Rattle.bounded_pipe.specs.Ends.{Writing, Reading, WritesOn, ReadsOn, KnowsFull}
use Rattle.bounded_pipe.specs.Events.{SameWriting, SameReading}
use Rattle.bounded_pipe.specs.Pipes.{is_closed, is_at_end, events_of_writing, events_of_reading}
use Rattle.collector.specs.Sources.{SourcePart, SinkPart, SourceCase, SinkCase, source_owes}
use Rattle.collector.specs.Sources.{held_size}
use Rattle.collector.specs.Files.{FilesShown, ReadLog, WriteLog, nothing_read, reads_of, log_of}
use Rattle.collector.specs.Files.{out_of, SameFiles, ReadsOnly, ReadsAtMost, WritesOnly, one_more}
use Rattle.run_types.specs.declared.names.InName.{InName}
use Rattle.run_types.specs.declared.names.OutName.{OutName}
use Rattle.run_types.specs.declared.node_state.NodeFault.{NodeFault}
use Rattle.run_types.specs.declared.node_state.NodeFault.TheVariants as faults
use Rattle.run_types.specs.declared.node_state.NodeState.{NodeState}
use Rattle.run_types.specs.declared.node_state.NodeState.TheVariants as states
use Rattle.run_types.specs.declared.step.Step.{Step}
use Rattle.run_types.specs.declared.step.Step.TheVariants as steps
use Rattle.collector.specs.declared.fault.RunFault.{RunFault}
use Rattle.collector.specs.declared.fault.RunFault.TheVariants as run_faults

-- a source: the number of its pipe and its end, its file with the name, if it has one, and the
-- greatest length of a piece
pub record SourceShown : Type 0 where
  pub pipe : ℕ
  pub end : Writing
  pub file : Option ℕ
  pub name : Option InName
  pub block : ℕ
  -- whether a read gave the end
  pub at_end : Bool
  -- the piece that it has read and not put
  pub held : Option (List ℕ)
  pub state : NodeState

-- a sink: the number of its pipe and its end, and its file with the name
pub record SinkShown : Type 0 where
  pub pipe : ℕ
  pub end : Reading
  pub file : ℕ
  pub name : OutName
  pub state : NodeState

-- the source without its end, if its reads returned these bytes
abbrev pub source_part : List ℕ → SourceShown → SourcePart
source_part read x = record { state = x.state; read = read; at_end = x.at_end; held = x.held }

-- The sink without its end, if its file shows this: it has still to write what is out.
abbrev pub sink_part : WriteLog → SinkShown → SinkPart
sink_part log x = record { state = x.state; held = log.out; written = log.bytes }

-- what the reads of a source's file gave; a source without a file has read nothing
abbrev pub read_by : FilesShown → Option ℕ → ReadLog
read_by s None = nothing_read
read_by s (Some file) = reads_of s file

-- A source fits what its reads gave: it knows whether they gave the end, has not put Close while it
-- runs, and is in its case. One without a file has nothing to read.
pub record SourceFits (log : ReadLog) (x : SourceShown) : Type 0 where
  pub at_end : x.at_end ≡ log.at_end
  pub unclosed : x.state ≡ states.Running → is_closed x.end ≡ false
  pub case : SourceCase x.block (is_none x.file) (source_part log.bytes x) x.state x.end

-- a sink fits what its file shows: it is in its case
abbrev pub SinkFits : WriteLog → SinkShown → Type 0
SinkFits log x = SinkCase (sink_part log x) x.state x.end

-- a sink that runs has not taken Close
abbrev pub IsUnended : SinkShown → Type 0
IsUnended x = x.state ≡ states.Running → is_at_end x.end ≡ false

-- what a source is from first to last
pub record SameSource (old new : SourceShown) : Type 0 where
  pub pipe : new.pipe ≡ old.pipe
  pub file : new.file ≡ old.file
  pub name : new.name ≡ old.name
  pub block : new.block ≡ old.block

-- what a sink is from first to last
pub record SameSink (old new : SinkShown) : Type 0 where
  pub pipe : new.pipe ≡ old.pipe
  pub file : new.file ≡ old.file
  pub name : new.name ≡ old.name

-- a writing end that knows of no room for an item of this size, and of no hang-up
pub record KnowsNoPlace (size : ℕ) (w : Writing) : Type 0 where
  pub full : KnowsFull size w
  pub unmarked : w.pending ≡ 0
  pub reader : w.noted ≡ false

-- a source can fail by a read or for want of memory
abbrev pub IsSourceFault : NodeFault → Type 0
IsSourceFault faults.ReadFault = Unit {0}
IsSourceFault faults.WriteFault = ⊥
IsSourceFault faults.CountTooLarge = ⊥
IsSourceFault faults.NoMemory = Unit {0}

-- it is in the state of a source that has failed
abbrev pub IsFailedSource : NodeState → Type 0
IsFailedSource states.Running = ⊥
IsFailedSource states.Ended = ⊥
IsFailedSource states.Broken = ⊥
IsFailedSource (states.Failed fault) = IsSourceFault fault

-- A source waits for this pipe, its own: it owes an item, its end refuses it, and nothing was put
-- or noted.
pub record SourceWaits (old new : SourceShown) (pipe : ℕ) : Type 0 where
  pub own : pipe ≡ new.pipe
  pub running : new.state ≡ states.Running
  pub same : SameWriting old.end new.end
  pub refuses : KnowsNoPlace (held_size new.held) old.end
  pub owes : (read : List ℕ) → is_closed new.end ≡ false
      → source_owes (is_none new.file) (source_part read new) new.end ≡ true

-- A sink waits for this pipe, its own: its end knows of no item, and nothing was taken.
pub record SinkWaits (old new : SinkShown) (pipe : ℕ) : Type 0 where
  pub own : pipe ≡ new.pipe
  pub running : new.state ≡ states.Running
  pub same : SameReading old.end new.end
  pub empty : old.end.known ≡ []

-- What the result of a source's step says. Moved: there was an event at its end. Waits: it waits.
-- Otherwise: its state.
abbrev pub SourceSays : SourceShown → SourceShown → Step → Type 0
SourceSays old new steps.Moved = (new.state ≡ states.Running)
    × (events_of_writing old.end < events_of_writing new.end)
SourceSays old new (steps.Waits pipe) = SourceWaits old new pipe
SourceSays old new steps.Ended = new.state ≡ states.Ended
SourceSays old new steps.Broken = new.state ≡ states.Broken
SourceSays old new steps.Failed = IsFailedSource new.state

-- What the result of a sink's step says. A sink never breaks, and fails only by a write.
abbrev pub SinkSays : SinkShown → SinkShown → Step → Type 0
SinkSays old new steps.Moved = (new.state ≡ states.Running)
    × (events_of_reading old.end < events_of_reading new.end)
SinkSays old new (steps.Waits pipe) = SinkWaits old new pipe
SinkSays old new steps.Ended = new.state ≡ states.Ended
SinkSays old new steps.Broken = ⊥
SinkSays old new steps.Failed = new.state ≡ states.Failed faults.WriteFault

-- After a step with this result nothing is out, unless the step moved something.
abbrev pub IsIdle : Step → List ℕ → Type 0
IsIdle steps.Moved out = Unit {0}
IsIdle _ out = out ≡ []

-- a source without a file leaves the files; one with a file changes no log but that of its file
abbrev pub ReadsOwn : Option ℕ → FilesShown → FilesShown → Type 0
ReadsOwn None old new = SameFiles old new
ReadsOwn (Some file) old new = ReadsOnly file old new

-- how many reads and writes have failed, after this fault
abbrev pub failures_with : NodeFault → ℕ → ℕ
failures_with faults.ReadFault failures = one_more failures
failures_with faults.WriteFault failures = one_more failures
failures_with faults.CountTooLarge failures = failures
failures_with faults.NoMemory failures = failures

-- How many reads and writes have failed, after a step of a node, by its states before and after:
-- one more only if it failed by its file.
abbrev pub failures_after : NodeState → NodeState → ℕ → ℕ
failures_after states.Running states.Running failures = failures
failures_after states.Running states.Ended failures = failures
failures_after states.Running states.Broken failures = failures
failures_after states.Running (states.Failed fault) failures = failures_with fault failures
failures_after states.Ended new failures = failures
failures_after states.Broken new failures = failures
failures_after (states.Failed fault) new failures = failures

-- whether it has failed
abbrev pub is_failed : NodeState → Bool
is_failed states.Running = false
is_failed states.Ended = false
is_failed states.Broken = false
is_failed (states.Failed fault) = true

-- the fault of a source of this name in this state
abbrev pub source_fault : Option InName → NodeState → Option RunFault
source_fault (Some name) (states.Failed faults.ReadFault) = Some (run_faults.ReadFault name)
source_fault name (states.Failed faults.NoMemory) = Some run_faults.NoMemory
source_fault name state = None

-- the fault of a sink of this name in this state
abbrev pub sink_fault : OutName → NodeState → Option RunFault
sink_fault name (states.Failed faults.WriteFault) = Some (run_faults.WriteFault name)
sink_fault name state = None

-- What it is that a sink settles: it keeps its case, nothing is out after that, it writes its own
-- file alone, and it takes nothing. It fails if a write did. If it does not run, nothing happens.
pub record SinkSettles (y z : SinkShown) (old new : FilesShown) : Type 0 where
  pub fits : SinkFits (log_of old y.file) y → SinkFits (log_of new z.file) z
  pub settled : SinkFits (log_of old y.file) y → out_of new z.file ≡ []
  pub after : (z ≡ y) ⊎ (z ≡ record y { state = states.Failed faults.WriteFault })
  pub own : WritesOnly y.file old new
  pub failures : new.failures ≡ failures_after y.state z.state old.failures
  pub stays : y.state ≢ states.Running → (z ≡ y) × (new ≡ old)

-- What a step of a source is: its case is kept, its result is true, its end goes on, it reads its
-- own file alone, and at most `block` bytes of it. If the source does not run, nothing happens.
pub record SourceActs (x z : SourceShown) (old new : FilesShown) (step : Step) : Type 0 where
  pub fits : SourceFits (read_by old x.file) x → SourceFits (read_by new z.file) z
  pub says : SourceSays x z step
  pub same : SameSource x z
  pub goes_on : WritesOn x.end z.end
  pub own : ReadsOwn x.file old new
  pub most : ReadsAtMost x.block (read_by old x.file) (read_by new x.file)
  pub failures : new.failures ≡ failures_after x.state z.state old.failures
  pub stays : x.state ≢ states.Running → (z ≡ x) × (new ≡ old)

-- what a step of a sink is: the same of the file that it writes
pub record SinkActs (y z : SinkShown) (old new : FilesShown) (step : Step) : Type 0 where
  pub fits : SinkFits (log_of old y.file) y → SinkFits (log_of new z.file) z
  pub unended : IsUnended y → IsUnended z
  pub says : SinkSays y z step
  pub idle : SinkFits (log_of old y.file) y → IsIdle step (out_of new z.file)
  pub same : SameSink y z
  pub goes_on : ReadsOn y.end z.end
  pub own : WritesOnly y.file old new
  pub failures : new.failures ≡ failures_after y.state z.state old.failures
  pub stays : y.state ≢ states.Running → (z ≡ y) × (new ≡ old)
