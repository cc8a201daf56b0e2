-- What is so of every lawful state, of every forest and of every stuck state.
use Rattle.std.specs.Prelude.{◌≡◌, ℕ, true, List, [], ◌++◌, Option, Some}
use mathlib.Core.List.{IsPrefix}
use Rattle.machine.specs.Whole.{inputs_of, status_of, WholeAnswer}
use Rattle.bounded_pipe.specs.Pipes.{bytes_put, is_closed}
use Rattle.graphs.specs.Graph.{Graph, Stage, Sink, node_at, writer, IsPipe, IsNode, Reads}
use Rattle.graphs.specs.Graph.{IsPlan, IsForest}
use Rattle.network_laws.specs.Sequential.{Contents, answer, output_of, status_at}
use Rattle.network_laws.specs.State.{Setup, State, IsLawful, node_state_of, IsDone, told}
use Rattle.network_laws.specs.Waits.{WaitsFor, IsRunning, IsStuck}
use Rattle.network_laws.specs.declared.outcome.Waiting.{Waiting}
use Rattle.network_laws.specs.Outcome.{Run, Agree, HasReads, HasWrites, OutputsAre}
use Rattle.network_laws.specs.Outcome.{EachOutputBegins, fault_of, IsTrueFault, AreWaits, LeadOn}
use Rattle.network_laws.specs.Start.{IsNew}
use Rattle.run_types.specs.declared.node_state.NodeFault.TheVariants as node
use Rattle.run_types.specs.declared.node_state.NodeState.TheVariants.{Ended, Failed}

-- each pipe of a plan holds what its writer makes if its inputs hold the sequential answer's own
-- lists
abbrev pub AnswersAreOutputs : Type 0
AnswersAreOutputs = (g : Graph) (contents : Contents) → IsPlan g → (p : ℕ) → IsPipe g p →
    answer g contents p
    ≡ output_of g contents (answer g contents) (writer g p) (node_at g (writer g p))

-- a new network is in a lawful state
abbrev pub NewIsLawful : Type 0
NewIsLawful = (s : Setup) (st : State) → IsNew s st → IsLawful s st

-- Whatever the order of the steps was: the bytes put on each pipe are a prefix of the pipe's list
-- in the sequential answer, and are that list if Close was put.
abbrev pub EachPipeIsDetermined : Type 0
EachPipeIsDetermined = (s : Setup) (st : State) (run : Run) (contents : Contents) → IsPlan s.graph
    → IsLawful s st → HasReads st run → Agree s run contents →
    (p : ℕ) → IsPipe s.graph p → IsPrefix (bytes_put (st.writing p)) (answer s.graph contents p)
    × (is_closed (st.writing p) ≡ true → bytes_put (st.writing p) ≡ answer s.graph contents p)

-- What each sink has written, with what is out, is a prefix of the list of its pipe. If it has
-- ended, that list is written, and nothing is out.
abbrev pub EachOutputIsDetermined : Type 0
EachOutputIsDetermined = (s : Setup) (st : State) (run : Run) (contents : Contents)
    → IsPlan s.graph → IsLawful s st → HasReads st run → HasWrites st run → Agree s run contents →
    (k p : ℕ) → node_at s.graph k ≡ Some Sink → Reads s.graph k p
    → IsPrefix (run.written k ++ run.out k) (answer s.graph contents p)
    × (node_state_of (st.part k) ≡ Ended
    → (run.written k ≡ answer s.graph contents p) × (run.out k ≡ []))

-- in every lawful state each output is a prefix of its list
abbrev pub LawfulOutputsBegin : Type 0
LawfulOutputsBegin = (s : Setup) (st : State) (run : Run) → IsPlan s.graph → IsLawful s st
    → HasReads st run → HasWrites st run → EachOutputBegins s run

-- if every node has ended or broken, each output is its list
abbrev pub DoneOutputsAre : Type 0
DoneOutputsAre = (s : Setup) (st : State) (run : Run) (contents : Contents) → IsPlan s.graph
    → IsLawful s st → HasReads st run → HasWrites st run → Agree s run contents →
    ((k : ℕ) → IsNode s.graph k → IsDone (node_state_of (st.part k))) → OutputsAre s run contents

-- the exit status of a stage is fixed by which of its inputs are missing, whatever is on the others
abbrev pub StatusIsFixed : Type 0
StatusIsFixed = (s : Setup) (run : Run) (contents : Contents) → Agree s run contents →
    (k : ℕ) (filter : WholeAnswer) (inputs : List ℕ) (branches : List (Option ℕ)) (held ys : ℕ
    → List ℕ) → node_at s.graph k ≡ Some (Stage filter inputs branches) →
    status_at s.graph contents held (node_at s.graph k) ≡ status_of (inputs_of (told s inputs) ys)

-- a stage of a lawful state that failed for a count has one that is too large
abbrev pub CountFaultIsTrue : Type 0
CountFaultIsTrue = (s : Setup) (st : State) (run : Run) → IsLawful s st → HasReads st run →
    (k : ℕ) (filter : WholeAnswer) (inputs : List ℕ) (branches : List (Option ℕ))
    → node_at s.graph k ≡ Some (Stage filter inputs branches) →
    node_state_of (st.part k) ≡ Failed node.CountTooLarge
    → IsTrueFault s run (fault_of k node.CountTooLarge)

-- a plan that is a forest has no stuck state
abbrev pub NoForestIsStuck : Type 0
NoForestIsStuck = (s : Setup) (st : State) → IsPlan s.graph → IsForest s.graph → IsStuck s st → ⊥

-- every stuck state has a node that waits for a full pipe
abbrev pub SomeWaitIsFull : Type 0
SomeWaitIsFull = (s : Setup) (st : State) → IsPlan s.graph → IsStuck s st
    → (k p : ℕ) × IsRunning s st k × WaitsFor s st k true p

-- in a stuck state a waiting node is at the other end of each pipe that is waited for
abbrev pub StuckWaitsLeadOn : Type 0
StuckWaitsLeadOn = (s : Setup) (st : State) (waits : List Waiting) → IsPlan s.graph → IsStuck s st
    → AreWaits s st waits → LeadOn s.graph waits
