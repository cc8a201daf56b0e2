-- The state of a network: what each node keeps, and what the two ends of each pipe have recorded.
use Rattle.std.specs.Prelude.{ℕ, zero, suc, ◌+◌, ◌||◌, Bool, true, false, List, map, length}
use Rattle.std.specs.Prelude.{Option, Some, None}
use Rattle.machine.specs.Whole.{inputs_of, WholeAnswer, StreamAnswer}
use Rattle.machine.specs.declared.protocol.Presence.{Presence}
use Rattle.machine.specs.declared.protocol.Presence.TheVariants.{Present, Missing}
use Rattle.bounded_pipe.specs.Ends.{Writing, Reading}
use Rattle.bounded_pipe.specs.Pipes.{IsSound, events_of_writing, events_of_reading}
use Rattle.graphs.specs.Graph.{Graph, GraphNode, Source, Stage, Sink, node_at, writer}
use Rattle.graphs.specs.Graph.{IsPipe, Writes, Reads, present}
use Rattle.network_laws.specs.Sequential.{is_missing}
use Rattle.collector.specs.Sources.{SourcePart, SinkPart, SourceCase, SinkCase}
use Rattle.stages.specs.Stages.{StagePart, StageCase}
use Rattle.run_types.specs.declared.node_state.NodeState.{NodeState}
use Rattle.run_types.specs.declared.node_state.NodeState.TheVariants.{Running, Ended, Broken}
use Rattle.run_types.specs.declared.node_state.NodeState.TheVariants.{Failed}

-- a node, without its pipe ends
pub data Part : Type 0 where
  OfSource : (x : SourcePart) → Part
  OfStage : (x : StagePart) → Part
  OfSink : (x : SinkPart) → Part

-- what a run is made for: the graph, which of its sources are missing, how many items a pipe can
-- grow to hold, how many bytes a pipe can hold, and the greatest length of a piece
pub record Setup : Type 0 where
  pub graph : Graph
  pub missing : ℕ → Bool
  pub most : ℕ
  pub limit : ℕ
  pub block : ℕ

-- the two ends of each pipe, by the pipe's number, and each node without its ends, by the node's
pub record State : Type 0 where
  pub writing : ℕ → Writing
  pub reading : ℕ → Reading
  pub part : ℕ → Part

-- whether an input is there, for a machine
abbrev pub presence_of : Bool → Presence
presence_of true = Missing
presence_of false = Present

-- which inputs the machine of a stage with these inputs takes for missing
abbrev pub told : Setup → List ℕ → List Presence
told s inputs = map (λ p. presence_of (is_missing s.graph s.missing (writer s.graph p))) inputs

-- what a filter makes of its inputs, if this is on them, by the input's number
abbrev pub answer_of : WholeAnswer → List Presence → StreamAnswer
answer_of filter presence ys = filter (inputs_of presence ys)

-- whether the source k gives nothing: it is empty, or its input is missing
abbrev pub gives_nothing : Setup → ℕ → Bool → Bool
gives_nothing s k empty = empty || s.missing k

-- the case of the node k, over its own ends
pub data NodeCase (s : Setup) (st : State) (k : ℕ) : Option GraphNode → Part → Type 0 where
  NoNode : {part : Part} → NodeCase s st k None part
  CaseOfSource : {empty : Bool} {x : SourcePart}
      → ((p : ℕ) → Writes s.graph k p
      → SourceCase s.block (gives_nothing s k empty) x x.state (st.writing p))
      → NodeCase s st k (Some (Source empty)) (OfSource x)
  CaseOfStage : {filter : WholeAnswer} {inputs : List ℕ} {branches : List (Option ℕ)}
      {x : StagePart}
      → StageCase s.block (answer_of filter (told s inputs)) x x.state (map st.reading inputs)
      (map st.writing (present branches))
      → NodeCase s st k (Some (Stage filter inputs branches)) (OfStage x)
  CaseOfSink : {x : SinkPart}
      → ((p : ℕ) → Reads s.graph k p → SinkCase x x.state (st.reading p))
      → NodeCase s st k (Some Sink) (OfSink x)

-- A lawful state: the two ends of each pipe agree, and each node is in its case.
pub record IsLawful (s : Setup) (st : State) : Type 0 where
  pub pipes : (p : ℕ) → IsPipe s.graph p → IsSound s.block (st.writing p) (st.reading p)
  pub nodes : (k : ℕ) → NodeCase s st k (node_at s.graph k) (st.part k)

-- how a node is doing
abbrev pub node_state_of : Part → NodeState
node_state_of (OfSource x) = x.state
node_state_of (OfStage x) = x.state
node_state_of (OfSink x) = x.state

-- it has ended or broken
abbrev pub IsDone : NodeState → Type 0
IsDone Running = ⊥
IsDone Ended = Unit {0}
IsDone Broken = Unit {0}
IsDone (Failed fault) = ⊥

-- it has failed
abbrev pub IsFailed : NodeState → Type 0
IsFailed Running = ⊥
IsFailed Ended = ⊥
IsFailed Broken = ⊥
IsFailed (Failed fault) = Unit {0}

-- the events that the pipes below the number n have seen: puts and takes, hang-ups and the marks
-- that noted them
abbrev pub events_below : ℕ → State → ℕ
events_below zero st = 0
events_below (suc n) st = events_below n st
    + (events_of_writing (st.writing n) + events_of_reading (st.reading n))

-- the events of a network so far
abbrev pub events : Graph → State → ℕ
events g st = events_below (length g.pipes) st
