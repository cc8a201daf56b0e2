-- What a step of one node leaves, and what its result says.
--
-- A node reads and writes its own pipes alone (POSIX.1-2017 XCU 2.9.2, XSH read, write; pipe(7)).
use Rattle.std.specs.Prelude.{◌≡◌, ◌≢◌, ℕ, zero, suc, ◌+◌, ◌<◌, ◌==◌, Bool, true, false, length}
use Rattle.std.specs.Prelude.{if◌then◌else◌}
use Rattle.bounded_pipe.specs.Ends.{WritesOn, ReadsOn}
use Rattle.bounded_pipe.specs.Events.{SameWriting, SameReading}
use Rattle.collector.specs.Nodes.{failures_after}
use Rattle.run_types.specs.declared.node_state.NodeState.{NodeState}
use Rattle.run_types.specs.declared.node_state.NodeState.TheVariants as state
use Rattle.run_types.specs.declared.step.Step.{Step}
use Rattle.run_types.specs.declared.step.Step.TheVariants as step
use Rattle.graphs.specs.Graph.{Graph, writer, reader, IsPipe, IsNode}
use Rattle.network_laws.specs.State.{Setup, State, node_state_of, events, IsFailed}
use Rattle.network_laws.specs.Waits.{WaitsFor}

-- No event happened on any pipe, though an end may have seen more of what the other did.
pub record SameEnds (old new : State) : Type 0 where
  pub writing : (p : ℕ) → SameWriting (old.writing p) (new.writing p)
  pub reading : (p : ℕ) → SameReading (old.reading p) (new.reading p)

-- and each node is as it was
pub record SameState (old new : State) : Type 0 where
  pub ends : SameEnds old new
  pub parts : (k : ℕ) → new.part k ≡ old.part k

-- A step of the node k: every event is one of its own ends, which go on from their own records;
-- every other node is as it was; and if the node did not run nothing happened at all. `failed` and
-- `more` are how many reads and writes have failed before it and after it: one more only if it
-- failed by its file.
pub record IsStep (g : Graph) (k : ℕ) (old new : State) (failed more : ℕ) : Type 0 where
  pub others : (j : ℕ) → IsNode g j → j ≢ k → new.part j ≡ old.part j
  pub writing : (p : ℕ) → IsPipe g p → writer g p ≢ k → SameWriting (old.writing p) (new.writing p)
  pub reading : (p : ℕ) → IsPipe g p → reader g p ≢ k → SameReading (old.reading p) (new.reading p)
  pub writes_on : (p : ℕ) → WritesOn (old.writing p) (new.writing p)
  pub reads_on : (p : ℕ) → ReadsOn (old.reading p) (new.reading p)
  pub halted : node_state_of (old.part k) ≢ state.Running → SameState old new
  pub failures : more
      ≡ failures_after (node_state_of (old.part k)) (node_state_of (new.part k)) failed

-- What the result of a step of the node k says. Moved: there was an event. Waits: there was none,
-- and the node waits for this pipe, a full one if it writes it, an empty one if it reads it.
-- Otherwise: the state of the node.
abbrev pub StepIs : Setup → State → State → ℕ → Step → Type 0
StepIs s old new k step.Moved = (node_state_of (new.part k) ≡ state.Running)
    × (events s.graph old < events s.graph new)
StepIs s old new k (step.Waits p) = (node_state_of (new.part k) ≡ state.Running) × SameEnds old new
    × WaitsFor s new k (writer s.graph p == k) p
StepIs s old new k step.Ended = node_state_of (new.part k) ≡ state.Ended
StepIs s old new k step.Broken = node_state_of (new.part k) ≡ state.Broken
StepIs s old new k step.Failed = IsFailed (node_state_of (new.part k))

-- whether a node in this state has ended or broken
abbrev pub is_done : NodeState → Bool
is_done state.Running = false
is_done state.Ended = true
is_done state.Broken = true
is_done (state.Failed fault) = false

-- how many of the nodes below the number n have ended or broken
abbrev pub done_below : ℕ → State → ℕ
done_below zero st = 0
done_below (suc n) st = done_below n st + (if is_done (node_state_of (st.part n)) then 1 else 0)

-- how far a network has come: its events so far, and its nodes that have ended or broken
abbrev pub progress : Graph → State → ℕ
progress g st = events g st + done_below (length g.nodes) st
