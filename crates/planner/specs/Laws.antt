-- What holds of every plan.
use Rattle.std.specs.Prelude.{◌≡◌, ℕ, suc, ◌≤◌, List, [], ◌∷◌, length, Option, Some, slice_get}
use Rattle.run_types.specs.declared.names.InName.{InName}
use Rattle.run_types.specs.declared.names.OutName.{OutName}
use Rattle.run_types.specs.Destinations.{destination_of}
use Rattle.commands.specs.Filters.{input_count}
use Rattle.commands.specs.declared.spec.FilterSpec.{FilterSpec}
use Rattle.pipeline_text.specs.Grammar.{script_of}
use Rattle.pipeline_text.specs.declared.script.Script.{Script}
use Rattle.graphs.specs.Graph.{IsPlan, IsForest}
use Rattle.planner.specs.declared.plan.InOpening.{InOpening}
use Rattle.planner.specs.declared.plan.Node.TheVariants as node
use Rattle.planner.specs.declared.plan.OutOpening.{OutOpening}
use Rattle.planner.specs.Places.{Stage}
use Rattle.planner.specs.Stages.{AreBody}
use Rattle.planner.specs.Planned.{Planned, IsPlanOf, graph_of}

-- the indices of stages are this number and those that follow it
abbrev pub AreInTurn : ℕ → List Stage → Type 0
AreInTurn k [] = Unit {0}
AreInTurn k (s ∷ ss) = (s.index ≡ k) × AreInTurn (suc k) ss

-- a script has at most one plan
abbrev pub PlansAreOne : Type 0
PlansAreOne = (s : Script) (plan other : Planned) → IsPlanOf s plan → IsPlanOf s other
    → plan ≡ other

-- the plan of a script is a plan of a graph
abbrev pub PlansAreWired : Type 0
PlansAreWired = (s : Script) (plan : Planned) → AreBody s.pipelines → IsPlanOf s plan
    → IsPlan (graph_of plan)

-- The plan of a script that makes no FIFO is a forest: its nodes can be ordered so that each has at
-- most one pipe to later ones. The operands of tee are files in such a script, so each of them has
-- a sink of its own (POSIX.1-2017 XCU tee).
abbrev pub ScriptsWithoutFifosHaveForests : Type 0
ScriptsWithoutFifosHaveForests = (s : Script) (plan : Planned) → IsPlanOf s plan → s.fifos ≡ []
    → IsForest (graph_of plan)

-- the pipelines of a text's script are pipelines in the background, and then one in the foreground,
-- each of at least one command
abbrev pub TextsHaveBodies : Type 0
TextsHaveBodies = (text : List ℕ) (s : Script) → script_of text ≡ Some s → AreBody s.pipelines

-- ---- openings

-- an input of this name is opened for the node k
pub record IsInputOf (plan : Planned) (k : ℕ) (name : InName) : Type 0 where
  pub place : ℕ
  pub opening : InOpening
  pub there : slice_get plan.inputs place ≡ Some opening
  pub for_node : opening.node ≡ Some k
  pub called : opening.name ≡ name

-- an output of this name is opened for the node k
pub record IsOutputOf (plan : Planned) (k : ℕ) (name : OutName) : Type 0 where
  pub place : ℕ
  pub opening : OutOpening
  pub there : slice_get plan.outputs place ≡ Some opening
  pub for_node : opening.node ≡ Some k
  pub called : opening.name ≡ name

-- Each source that reads something and each sink has an opening of its name; what is opened for a
-- node is so for such a node; and no two openings are for one node.
pub record HasOwnOpenings (plan : Planned) : Type 0 where
  pub inputs : (k : ℕ) (name : InName) → slice_get plan.nodes k ≡ Some (node.Source (Some name))
      → IsInputOf plan k name
  pub read : (i k : ℕ) (o : InOpening) → slice_get plan.inputs i ≡ Some o → o.node ≡ Some k
      → slice_get plan.nodes k ≡ Some (node.Source (Some o.name))
  pub once : (i j k : ℕ) (o r : InOpening) → slice_get plan.inputs i ≡ Some o
      → slice_get plan.inputs j ≡ Some r
      → o.node ≡ Some k → r.node ≡ Some k → i ≡ j
  pub outputs : (k : ℕ) (name : OutName) → slice_get plan.nodes k ≡ Some (node.Sink name)
      → IsOutputOf plan k name
  pub written : (i k : ℕ) (o : OutOpening) → slice_get plan.outputs i ≡ Some o → o.node ≡ Some k
      → slice_get plan.nodes k ≡ Some (node.Sink o.name)
  pub written_once : (i j k : ℕ) (o r : OutOpening) → slice_get plan.outputs i ≡ Some o
      → slice_get plan.outputs j ≡ Some r
      → o.node ≡ Some k → r.node ≡ Some k → i ≡ j

-- each source and each sink of a plan has its own opening
abbrev pub OpeningsAreOwn : Type 0
OpeningsAreOwn = (s : Script) (plan : Planned) → IsPlanOf s plan → HasOwnOpenings plan

-- No two outputs of a plan write to one destination, the standard output or the file of a name.
abbrev pub OutputsAreApart : Type 0
OutputsAreApart = (s : Script) (plan : Planned) → AreBody s.pipelines → IsPlanOf s plan
    → (i j : ℕ) (o r : OutOpening)
    → slice_get plan.outputs i ≡ Some o → slice_get plan.outputs j ≡ Some r
    → destination_of o.name ≡ destination_of r.name → i ≡ j

-- ---- sizes

-- a stage has the inputs of its filter, at least one, and as branches at most standard output and
-- 32 operands
pub record IsSized (filter : FilterSpec) (inputs : List ℕ) (branches : List (Option ℕ)) : Type 0
  where
    pub some : 1 ≤ length inputs
    pub counted : length inputs ≡ input_count filter
    pub few : length branches ≤ 33

-- the node k is a stage
pub record IsStageAt (plan : Planned) (k : ℕ) : Type 0 where
  pub number : ℕ
  pub filter : FilterSpec
  pub inputs : List ℕ
  pub branches : List (Option ℕ)
  pub is : slice_get plan.nodes k ≡ Some (node.Stage number filter inputs branches)

-- each stage is of that size, and the node that gives the exit status is a stage
pub record HasSizedStages (plan : Planned) : Type 0 where
  pub sized : (k number : ℕ) (filter : FilterSpec) (inputs : List ℕ) (branches : List (Option ℕ))
      → slice_get plan.nodes k ≡ Some (node.Stage number filter inputs branches)
      → IsSized filter inputs branches
  pub result : IsStageAt plan plan.result.0

-- the stages of every plan are of that size
abbrev pub StagesAreSized : Type 0
StagesAreSized = (s : Script) (plan : Planned) → AreBody s.pipelines → IsPlanOf s plan
    → HasSizedStages plan
