-- What a run gave, which contents agree with it, and what its outcome says.
--
-- A run's contents are what the reads of its files would give (POSIX.1-2017 XSH read); an operand
-- that cannot be opened is missing (XCU 1.4, CONSEQUENCES OF ERRORS).
use Rattle.std.specs.Prelude.{◌≡◌, ℕ, ◌-◌, ◌^◌, ◌<◌, ◌⊎◌, Bool, true, false, List, [], ◌∷◌}
use Rattle.std.specs.Prelude.{◌++◌, map, Option, Some, None, Contains, if◌then◌else◌}
use Rattle.std.specs.List.{AllByRecursion}
use mathlib.Core.List.{IsPrefix}
use Rattle.graphs.specs.Graph.{Graph, GraphNode, Source, Stage, Sink, node_at, writer, reader}
use Rattle.graphs.specs.Graph.{IsPipe, Reads}
use Rattle.network_laws.specs.Sequential.{Contents, answer, answer_status}
use Rattle.stages.specs.Stages.{IsCountTooLarge}
use Rattle.bounded_pipe.specs.Ends.{LacksBytes}
use Rattle.collector.specs.Sources.{held_size}
use Rattle.stages.specs.Owed.{owed_size}
use Rattle.network_laws.specs.State.{Part, OfSource, OfStage, OfSink, Setup, State, IsLawful}
use Rattle.network_laws.specs.State.{answer_of, told}
use Rattle.network_laws.specs.Waits.{WaitsFor, IsRunning, IsStuck}
use Rattle.network_laws.specs.declared.outcome.Waiting.{Waiting}
use Rattle.run_types.specs.declared.node_state.NodeFault.{NodeFault}
use Rattle.run_types.specs.declared.node_state.NodeFault.TheVariants as node

-- why a run could not go on: a read of a source or a write of a sink failed, a number that a stage
-- is to write is above 2^63 - 1, or memory or a thread was refused
pub data FaultByNode : Type 0 where
  ReadFault : (node : ℕ) → FaultByNode
  WriteFault : (node : ℕ) → FaultByNode
  CountTooLarge : (node : ℕ) → FaultByNode
  NoMemory : FaultByNode

-- the fault of a run that is that of its node k
abbrev pub fault_of : ℕ → NodeFault → FaultByNode
fault_of k node.ReadFault = ReadFault k
fault_of k node.WriteFault = WriteFault k
fault_of k node.CountTooLarge = CountTooLarge k
fault_of k node.NoMemory = NoMemory

-- what a run has to show
pub record Run : Type 0 where
  -- what the reads of each source gave, by the node's number, and whether a read gave the end
  pub read : ℕ → List ℕ
  pub at_end : ℕ → Bool
  -- what the writes of each sink took, and what it has still to write
  pub written : ℕ → List ℕ
  pub out : ℕ → List ℕ
  -- how many reads and writes had failed when the call began, and when it returned
  pub failures_before : ℕ
  pub failures : ℕ
  -- the faults that nodes had when the call began
  pub faults_before : List FaultByNode

-- A source that was opened has content. The bytes read are a prefix of it, and all of it if a read
-- returned the end. One whose opening was refused has none. No other node has content.
abbrev pub AgreesAt : Option GraphNode → Bool → Option (List ℕ) → List ℕ → Bool → Type 0
AgreesAt (Some (Source false)) missing None read at_end = missing ≡ true
AgreesAt (Some (Source false)) missing (Some bytes) read at_end = (missing ≡ false)
    × IsPrefix read bytes × (at_end ≡ true → read ≡ bytes)
AgreesAt _ missing content read at_end = Unit {0}

-- the contents agree with a run
abbrev pub Agree : Setup → Run → Contents → Type 0
Agree s run contents = (k : ℕ)
    → AgreesAt (node_at s.graph k) (s.missing k) (contents k) (run.read k) (run.at_end k)

-- this node, if it is a source, has read this, and this is whether a read gave the end
abbrev pub HasRead : Part → List ℕ → Bool → Type 0
HasRead (OfSource x) read at_end = (x.read ≡ read) × (x.at_end ≡ at_end)
HasRead (OfStage x) read at_end = Unit {0}
HasRead (OfSink x) read at_end = Unit {0}

-- this node, if it is a sink, has written this, and has still to write that
abbrev pub HasWritten : Part → List ℕ → List ℕ → Type 0
HasWritten (OfSource x) written out = Unit {0}
HasWritten (OfStage x) written out = Unit {0}
HasWritten (OfSink x) written out = (x.written ≡ written) × (x.held ≡ out)

-- the sources of this state have read what the run's reads gave
abbrev pub HasReads : State → Run → Type 0
HasReads st run = (k : ℕ) → HasRead (st.part k) (run.read k) (run.at_end k)

-- its sinks have written what the run's writes took, and have still to write what is out
abbrev pub HasWrites : State → Run → Type 0
HasWrites st run = (k : ℕ) → HasWritten (st.part k) (run.written k) (run.out k)

-- each output is its list in the sequential answer, and nothing is out
abbrev pub OutputsAre : Setup → Run → Contents → Type 0
OutputsAre s run contents = (k p : ℕ) → node_at s.graph k ≡ Some Sink → Reads s.graph k p
    → (run.written k ≡ answer s.graph contents p) × (run.out k ≡ [])

-- each output, also with what is out after it, is a prefix of its list in the sequential answer
abbrev pub OutputsBegin : Setup → Run → Contents → Type 0
OutputsBegin s run contents = (k p : ℕ) → node_at s.graph k ≡ Some Sink → Reads s.graph k p
    → IsPrefix (run.written k ++ run.out k) (answer s.graph contents p)

-- each output is such a prefix, for all contents that agree
abbrev pub EachOutputBegins : Setup → Run → Type 0
EachOutputBegins s run = (contents : Contents) → Agree s run contents → OutputsBegin s run contents

-- The run has finished with this exit status: for all contents that agree, each output is its list
-- in the sequential answer, and the status is that of the sequential answer.
abbrev pub HasFinished : Setup → Run → ℕ → Type 0
HasFinished s run status = (contents : Contents) → Agree s run contents
    → OutputsAre s run contents × (status ≡ answer_status s.graph contents)

-- the nodes are named in rising order
abbrev pub AreRising : List Waiting → Type 0
AreRising [] = Unit {0}
AreRising (w ∷ []) = Unit {0}
AreRising (w ∷ v ∷ waits) = (w.node < v.node) × AreRising (v ∷ waits)

-- the node k is among those that are named
abbrev pub IsNamed : ℕ → List Waiting → Type 0
IsNamed k [] = ⊥
IsNamed k (w ∷ waits) = (w.node ≡ k) ⊎ IsNamed k waits

-- These are the waiting nodes of a state and no others, in node order.
pub record AreWaits (s : Setup) (st : State) (waits : List Waiting) : Type 0 where
  pub each : AllByRecursion (λ w. IsRunning s st w.node × WaitsFor s st w.node w.full w.pipe) waits
  pub all : (k : ℕ) → IsRunning s st k → IsNamed k waits
  pub rising : AreRising waits

-- how many bytes the item has that a node owes; 0 for a sink
abbrev pub waiting_size : Part → ℕ
waiting_size (OfSource x) = held_size x.held
waiting_size (OfStage x) = owed_size x
waiting_size (OfSink x) = 0

-- A full pipe that is waited for cannot grow any further: it has the greatest capacity of the run,
-- or it lacks bytes for the item that waits.
abbrev pub CannotGrow : Setup → State → Waiting → Type 0
CannotGrow s st w = w.full ≡ true →
    ((st.writing w.pipe).capacity ≡ s.most)
    ⊎ LacksBytes (waiting_size (st.part w.node)) (st.writing w.pipe) (st.reading w.pipe)

-- This state, whose pipes have these capacities and the run's limit in bytes, shows that a run
-- stalled: it is stuck, its sources and sinks have moved the bytes of the run, these are its
-- waiting nodes, and no full pipe of theirs can grow. The capacities are those at the end of the
-- run.
pub record ShowsStall (s : Setup) (room : ℕ
    → ℕ) (run : Run) (waits : List Waiting) (st : State) : Type 0 where
  pub stuck : IsStuck s st
  pub capacity : (p : ℕ) → IsPipe s.graph p → (st.writing p).capacity ≡ room p
  pub limits : (p : ℕ) → IsPipe s.graph p → (st.writing p).limit ≡ s.limit
  pub reads : HasReads st run
  pub writes : HasWrites st run
  pub named : AreWaits s st waits
  pub grown : AllByRecursion (CannotGrow s st) waits

-- a read or a write failed during the call, or the counter of failures is at its last value, which
-- is 2^64 - 1, or a node had this fault already
abbrev pub IsFileFault : Run → FaultByNode → Type 0
IsFileFault run fault = (run.failures_before < run.failures)
    ⊎ ((run.failures ≡ 2 ^ 64 - 1) ⊎ Contains run.faults_before fault)

-- whatever may still come to this stage, the answer to all of it has a count above 2^63 - 1
abbrev pub IsCountTooLargeAt : Setup → State → Option GraphNode → Type 0
IsCountTooLargeAt s st (Some (Stage filter inputs branches)) =
    IsCountTooLarge (answer_of filter (told s inputs)) (map st.reading inputs)
IsCountTooLargeAt s st _ = ⊥

-- The fault is true: a read or a write failed; or in a lawful state whose sources have read the
-- bytes of this run a count is too large, whatever may still come. That memory was refused no
-- definition can tell.
abbrev pub IsTrueFault : Setup → Run → FaultByNode → Type 0
IsTrueFault s run (ReadFault k) = IsFileFault run (ReadFault k)
IsTrueFault s run (WriteFault k) = IsFileFault run (WriteFault k)
IsTrueFault s run (CountTooLarge k) = (st : State) × IsLawful s st × HasReads st run
    × IsCountTooLargeAt s st (node_at s.graph k)
IsTrueFault s run NoMemory = Unit {0}

-- what a run returns, with its nodes by number
pub data OutcomeByNode : Type 0 where
  Finished : (status : ℕ) → OutcomeByNode
  Stalled : (waits : List Waiting) → OutcomeByNode
  Faulted : (fault : FaultByNode) → OutcomeByNode

-- The outcome is true of the run over pipes of these capacities, by the pipe's number.
abbrev pub IsTrueOutcome : Setup → (ℕ → ℕ) → Run → OutcomeByNode → Type 0
IsTrueOutcome s room run (Finished status) = HasFinished s run status
IsTrueOutcome s room run (Stalled waits) = EachOutputBegins s run
    × ((st : State) × ShowsStall s room run waits st)
IsTrueOutcome s room run (Faulted fault) = EachOutputBegins s run × IsTrueFault s run fault

-- the node at the other end of the pipe that is waited for
abbrev pub other_end : Graph → Waiting → ℕ
other_end g w = if w.full then reader g w.pipe else writer g w.pipe

-- at the other end of each pipe that is waited for is a waiting node
abbrev pub LeadOn : Graph → List Waiting → Type 0
LeadOn g waits = AllByRecursion (λ w. IsNamed (other_end g w) waits) waits
