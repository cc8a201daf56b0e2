-- The state of a new network.
use Rattle.std.specs.Prelude.{◌≡◌, ℕ, Bool, false, List, [], map, Option, Some, None}
use Rattle.machine.specs.Whole.{WholeAnswer}
use Rattle.machine.specs.Law.{IsLawful as ObeysLaw, IsNew as IsNewMachine}
use Rattle.machine.specs.declared.protocol.Presence.{Presence}
use Rattle.bounded_pipe.specs.Ends.{Writing, Reading}
use Rattle.bounded_pipe.specs.Pipes.{items_put, items_taken}
use Rattle.graphs.specs.Graph.{GraphNode, Source, Stage, Sink, node_at, present}
use Rattle.collector.specs.Sources.{SourcePart, SinkPart}
use Rattle.splice_tee.specs.declared.branches.Served.TheVariants.{Lacks}
use Rattle.stages.specs.Stages.{StagePart}
use Rattle.network_laws.specs.State.{Part, OfSource, OfStage, OfSink, Setup, State, told}
use Rattle.run_types.specs.declared.node_state.NodeState.TheVariants.{Running}

-- a source that has read nothing
abbrev pub new_source : SourcePart
new_source = record { state = Running; read = []; at_end = false; held = None }

-- a sink that has written nothing
abbrev pub new_sink : SinkPart
new_sink = record { state = Running; held = []; written = [] }

-- a stage with a new machine that has taken and put nothing
pub record IsNewStage (filter : WholeAnswer) (presence : List Presence) (branches : List ℕ)
    (x : StagePart) : Type 0 where
  pub state : x.state ≡ Running
  pub machine : IsNewMachine x.machine filter presence
  pub lawful : ObeysLaw x.machine
  pub hung_up : x.hung_up ≡ false
  pub served : x.served ≡ map (λ p. Lacks) branches
  pub front : x.front ≡ None
  pub owed : x.owed ≡ []

-- a new node
pub data IsNewPart (s : Setup) (k : ℕ) : Option GraphNode → Part → Type 0 where
  NoPart : {part : Part} → IsNewPart s k None part
  NewPartOfSource : {empty : Bool} {x : SourcePart} → x ≡ new_source
      → IsNewPart s k (Some (Source empty)) (OfSource x)
  NewPartOfStage : {filter : WholeAnswer} {inputs : List ℕ} {branches : List (Option ℕ)}
      {x : StagePart} → IsNewStage filter (told s inputs) (present branches) x
      → IsNewPart s k (Some (Stage filter inputs branches)) (OfStage x)
  NewPartOfSink : {x : SinkPart} → x ≡ new_sink → IsNewPart s k (Some Sink) (OfSink x)

-- the two ends of a new pipe
pub record IsNewPipe (w : Writing) (r : Reading) : Type 0 where
  pub pipe : w.pipe ≡ r.pipe
  pub put : items_put w ≡ []
  pub noted : w.noted ≡ false
  pub taken : items_taken r ≡ []
  pub hung_up : r.hung_up ≡ false

-- A new network: on no pipe was anything put, taken, hung up or noted.
pub record IsNew (s : Setup) (st : State) : Type 0 where
  pub pipes : (p : ℕ) → IsNewPipe (st.writing p) (st.reading p)
  pub parts : (k : ℕ) → IsNewPart s k (node_at s.graph k) (st.part k)
