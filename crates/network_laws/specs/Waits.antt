-- Which nodes wait, and for which pipe; and the states in which nothing can move.
--
-- A write to a full pipe waits until a reader has made room, and a read of an empty one until a
-- writer has written or closed it (POSIX.1-2017 XSH read, write; pipe(7)).
use Rattle.std.specs.Prelude.{◌≡◌, ℕ, ◌<◌, ◌≤◌, Bool, true, false, List, [], ◌∷◌, map, Option, Some}
use Rattle.std.specs.Prelude.{slice_get, if◌then◌else◌}
use Rattle.std.specs.List.{AllByRecursion}
use Rattle.machine.specs.Whole.{WholeAnswer}
use Rattle.machine.specs.declared.protocol.Want.TheVariants.{Take, Finished}
use Rattle.bounded_pipe.specs.Pipes.{IsFull, IsBare}
use Rattle.graphs.specs.Graph.{GraphNode, Source, Stage, Sink, node_at, IsPipe, IsNode}
use Rattle.graphs.specs.Graph.{Writes, Reads, present}
use Rattle.collector.specs.Sources.{source_owes, held_size, SourcePart, SinkPart}
use Rattle.splice_tee.specs.declared.branches.Served.{Served}
use Rattle.stages.specs.Owed.{branch_owed, owed_size}
use Rattle.stages.specs.Stages.{StagePart, AllDropped}
use Rattle.network_laws.specs.State.{Part, OfSource, OfStage, OfSink, Setup, State, IsLawful}
use Rattle.network_laws.specs.State.{gives_nothing, node_state_of, IsFailed}
use Rattle.run_types.specs.declared.node_state.NodeState.TheVariants.{Running}

-- the pipes to which a stage with these branches owes an item, in branch order
abbrev pub owed_to : State → StagePart → List ℕ → List Served → List ℕ
owed_to st x [] served = []
owed_to st x (p ∷ branches) [] = []
owed_to st x (p ∷ branches) (s ∷ served) = if branch_owed x (st.writing p) s
    then p ∷ owed_to st x branches served else owed_to st x branches served

-- the pipe is full for an item of this size
abbrev pub IsFullAt : State → ℕ → ℕ → Type 0
IsFullAt st size p = IsFull size (st.writing p) (st.reading p)

-- the pipe is empty and not closed
abbrev pub IsBareAt : State → ℕ → Type 0
IsBareAt st p = IsBare (st.writing p) (st.reading p)

-- A stage waits for the full pipe p: it is the first to which it owes an item, and each of the
-- others is full too. Once its machine has finished it first hangs up its inputs, for which it
-- never waits.
abbrev pub StageWaitsFull : State → StagePart → List ℕ → ℕ → Type 0
StageWaitsFull st x branches p =
    (more : List ℕ) × (owed_to st x branches x.served ≡ p ∷ more)
    × AllByRecursion (IsFullAt st (owed_size x)) (p ∷ more)
    × (x.machine.wanted ≡ Finished → x.hung_up ≡ true)

-- A stage waits for the empty pipe p: it owes nothing, a branch is open, and its machine wants the
-- input that p is.
abbrev pub StageWaitsEmpty : State → StagePart → List ℕ → List ℕ → ℕ → Type 0
StageWaitsEmpty st x inputs branches p =
    (i : ℕ) × (x.machine.wanted ≡ Take i) × (slice_get inputs i ≡ Some p)
    × (owed_to st x branches x.served ≡ []) × (AllDropped (map st.writing branches) → ⊥)
    × IsBareAt st p

-- the node k waits for the full pipe p
pub data FullWait (s : Setup) (st : State) (k : ℕ) : Option GraphNode → Part → ℕ → Type 0 where
  SourceFull : {empty : Bool} {x : SourcePart} {p : ℕ} → Writes s.graph k p
      → source_owes (gives_nothing s k empty) x (st.writing p) ≡ true
      → IsFullAt st (held_size x.held) p → FullWait s st k (Some (Source empty)) (OfSource x) p
  StageFull : {filter : WholeAnswer} {inputs : List ℕ} {branches : List (Option ℕ)} {x : StagePart}
      {p : ℕ} → StageWaitsFull st x (present branches) p
      → FullWait s st k (Some (Stage filter inputs branches)) (OfStage x) p

-- the node k waits for the empty pipe p; a source that owes nothing can read, and never waits
pub data EmptyWait (s : Setup) (st : State) (k : ℕ) : Option GraphNode → Part → ℕ → Type 0 where
  StageEmpty : {filter : WholeAnswer} {inputs : List ℕ} {branches : List (Option ℕ)} {x : StagePart}
      {p : ℕ} → StageWaitsEmpty st x inputs (present branches) p
      → EmptyWait s st k (Some (Stage filter inputs branches)) (OfStage x) p
  SinkEmpty : {x : SinkPart} {p : ℕ} → Reads s.graph k p → x.held ≡ [] → IsBareAt st p
      → EmptyWait s st k (Some Sink) (OfSink x) p

-- the node k, which has not ended, waits for the pipe p: a full one, or an empty one
abbrev pub WaitsFor : Setup → State → ℕ → Bool → ℕ → Type 0
WaitsFor s st k true p = FullWait s st k (node_at s.graph k) (st.part k) p
WaitsFor s st k false p = EmptyWait s st k (node_at s.graph k) (st.part k) p

-- the node k runs
abbrev pub IsRunning : Setup → State → ℕ → Type 0
IsRunning s st k = IsNode s.graph k × (node_state_of (st.part k) ≡ Running)

-- A stuck state: a lawful one in which no node has failed, some node has neither ended nor broken,
-- and each such node waits. Each pipe has room for an item, and for the bytes of the longest one,
-- so that an empty pipe takes every item.
pub record IsStuck (s : Setup) (st : State) : Type 0 where
  pub lawful : IsLawful s st
  pub room : (p : ℕ) → IsPipe s.graph p → 0 < (st.writing p).capacity
  pub bytes : (p : ℕ) → IsPipe s.graph p → s.block ≤ (st.writing p).limit
  pub no_fault : (k : ℕ) → IsNode s.graph k → IsFailed (node_state_of (st.part k)) → ⊥
  pub some : (k : ℕ) × IsRunning s st k
  pub each : (k : ℕ) → IsRunning s st k → (full : Bool) × (p : ℕ) × WaitsFor s st k full p
