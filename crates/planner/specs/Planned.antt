-- The plan of a script, and what is answered to one.
use Rattle.std.specs.Prelude.{◌≡◌, ℕ, zero, suc, ◌-◌, Bool, List, ◌∷◌, map, length, is_none}
use Rattle.std.specs.Prelude.{Some, None, Result, Ok, Err}
use Rattle.command_words.specs.declared.fault.ArgFault.TheVariants as arg
use Rattle.pipeline_text.specs.declared.script.Script.{Script}
use Rattle.commands.specs.Filters.{filter_whole}
use Rattle.graphs.specs.Graph as graph
use Rattle.graphs.specs.Orders.{IsPlannedOrder}
use Rattle.planner.specs.declared.fault.PlanFault.{PlanFault}
use Rattle.planner.specs.declared.fault.PlanFault.TheVariants as fault
use Rattle.planner.specs.declared.plan.Node.{Node}
use Rattle.planner.specs.declared.plan.Node.TheVariants as node
use Rattle.planner.specs.declared.plan.InOpening.{InOpening}
use Rattle.planner.specs.declared.plan.OutOpening.{OutOpening}
use Rattle.planner.specs.declared.plan.NodeName.TheVariants.{StageAt}
use Rattle.planner.specs.Places.{Stage}
use Rattle.planner.specs.declared.place.End.{End}
use Rattle.planner.specs.Ends.{in_ends, out_ends, stage_pipes}
use Rattle.planner.specs.Faults.{AreAbsent, IsFirst, MeetsFaults, the_faults, later_faults}
use Rattle.planner.specs.Openings.{opened_inputs, opened_outputs}
use Rattle.planner.specs.Stages.{placed, stages, is_negated, IsFirstMeaningless}
use Rattle.planner.specs.Tables.{names_of, number_of, pipes_of, ends_of, nodes_of}

-- A plan: its nodes in planned order; the writer and the reader of each pipe; what is opened; and
-- the node whose exit status is the run's, with whether `!` comes before its pipeline.
pub record Planned : Type 0 where
  pub nodes : List Node
  pub pipes : List (ℕ × ℕ)
  pub inputs : List InOpening
  pub outputs : List OutOpening
  pub result : ℕ × Bool

-- The plan of stages with these inputs and branches, which are in this order. The last of them is
-- the last of the foreground pipeline; `negated` is whether `!` comes before that.
abbrev pub plan_with : List (List ℕ) → List Stage → Bool → List End → List End → List ℕ
    → Planned
plan_with fifos ss negated ins outs order =
    let names = names_of ins outs order in
    record {
      nodes = nodes_of fifos ss ins outs order;
      pipes = map (ends_of names) (pipes_of ins outs order);
      inputs = opened_inputs fifos names ss;
      outputs = opened_outputs fifos names ss;
      result = (number_of names (StageAt (length ss - 1)), negated);
    }

abbrev pub plan_of : List (List ℕ) → List Stage → Bool → List ℕ → Planned
plan_of fifos ss negated order =
    plan_with fifos ss negated (in_ends fifos ss) (out_ends fifos ss) order

-- the pipes between the stages of a script
abbrev pub joined : List (List ℕ) → List Stage → List (ℕ × ℕ)
joined fifos ss = stage_pipes (in_ends fifos ss) (out_ends fifos ss)

-- The plan of a script: each of its commands means something, no fault is there, and the stages are
-- in the planned order.
pub record IsPlanOf (s : Script) (plan : Planned) : Type 0 where
  pub ss : List Stage
  pub means : stages s ≡ Some ss
  pub legal : AreAbsent s.fifos ss the_faults
  pub order : List ℕ
  pub planned : IsPlannedOrder (length ss) (joined s.fifos ss) order
  pub is : plan ≡ plan_of s.fifos ss (is_negated s.pipelines) order

-- The result of planning stages: their plan, if no fault is there; or the first fault, if memory is
-- not refused.
abbrev pub PlansStages : List (List ℕ) → List Stage → Bool → Result Planned PlanFault → Type 0
PlansStages fifos ss negated (Ok plan) = AreAbsent fifos ss the_faults
    × ((order : List ℕ) × IsPlannedOrder (length ss) (joined fifos ss) order
    × (plan ≡ plan_of fifos ss negated order))
PlansStages fifos ss negated (Err f) = MeetsFaults {A = Planned} fifos ss the_faults (Err f)

-- the same from the cycle on
abbrev pub PlansOrdered : List (List ℕ) → List Stage → Bool → Result Planned PlanFault → Type 0
PlansOrdered fifos ss negated (Ok plan) = AreAbsent fifos ss (fault.Cycle ∷ later_faults)
    × ((order : List ℕ) × IsPlannedOrder (length ss) (joined fifos ss) order
    × (plan ≡ plan_of fifos ss negated order))
PlansOrdered fifos ss negated (Err f) =
    MeetsFaults {A = Planned} fifos ss (fault.Cycle ∷ later_faults) (Err f)

-- each command means something, and this fault is the first that is there
pub record IsRefused (s : Script) (f : PlanFault) : Type 0 where
  pub ss : List Stage
  pub means : stages s ≡ Some ss
  pub first : IsFirst s.fifos ss the_faults f

-- Why a script has no plan: memory was refused; or the first command that means nothing is this
-- one; or the first fault is this one.
abbrev pub MeetsFault : Script → PlanFault → Type 0
MeetsFault s fault.NoMemory = Unit {0}
MeetsFault s (fault.Arg stage arg.NoMemory) = Unit {0}
MeetsFault s (fault.Arg zero f) = ⊥
MeetsFault s (fault.Arg (suc index) f) = IsFirstMeaningless (placed s) index
MeetsFault s f = IsRefused s f

-- the result for a script
abbrev pub MeetsPlan : Script → Result Planned PlanFault → Type 0
MeetsPlan s (Ok plan) = IsPlanOf s plan
MeetsPlan s (Err f) = MeetsFault s f

-- ---- the graph of a plan

-- a node, if each filter is what it makes of whole inputs
abbrev pub graph_node : Node → graph.GraphNode
graph_node (node.Source name) = graph.Source (is_none name)
graph_node (node.Stage number filter inputs branches) =
    graph.Stage (filter_whole filter) inputs branches
graph_node (node.Sink name) = graph.Sink

abbrev pub graph_of : Planned → graph.Graph
graph_of p = record { nodes = map graph_node p.nodes; pipes = p.pipes; result = p.result }
