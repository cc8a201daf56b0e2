-- The graph of a plan, and the lists of its bytes, as the definitions see them.
use Rattle.std.specs.Prelude.{ℕ, ◌<◌, true, false, List, [], map, length, Option, None, option_map}
use Rattle.std.specs.Prelude.{slice_index_or}
use Rattle.std.specs.List.{AllByRecursion}
use Rattle.std.specs.Global.{Vec}
use Rattle.machine.specs.Whole.{WholeAnswer}
use Rattle.graphs.specs.Graph.{Graph, GraphNode, Source, Stage, Sink}
use Rattle.network_laws.specs.Sequential.{Contents}
use Rattle.network_tests.specs.declared.plan.SmallNode.{SmallNode}
use Rattle.network_tests.specs.declared.plan.SmallNode.TheVariants as is
use Rattle.network_tests.specs.declared.plan.SmallPlan.{SmallPlan}

-- a node, if each filter is this function of whole inputs
abbrev pub graph_node : {F : Type 0} → (F → WholeAnswer) → SmallNode F → GraphNode
graph_node whole is.EmptySource = Source true
graph_node whole is.Source = Source false
graph_node whole (is.Stage filter inputs branches) =
    Stage (whole filter) inputs.items branches.items
graph_node whole is.Sink = Sink

-- the graph of a plan
abbrev pub graph_of : {F : Type 0} → (F → WholeAnswer) → SmallPlan F → Graph
graph_of whole plan =
    record {
      nodes = map (graph_node whole) plan.nodes.items;
      pipes = plan.pipes.items;
      result = plan.result;
    }

-- the inputs, as lists of bytes
abbrev pub whole_lists : List (Option (Vec ℕ)) → List (Option (List ℕ))
whole_lists xs = map (option_map (λ v. v.items)) xs

-- what each source holds, by the node's number
abbrev pub contents_of : List (Option (Vec ℕ)) → Contents
contents_of xs k = slice_index_or (whole_lists xs) k None

-- the bytes of the pipe p
abbrev pub list_at : List (Vec ℕ) → ℕ → List ℕ
list_at pipes p = slice_index_or (map (λ v. v.items) pipes) p []

-- these are numbers of pipes of a plan
abbrev pub ArePipes : {F : Type 0} → SmallPlan F → List ℕ → Type 0
ArePipes plan pipes = AllByRecursion (λ p. p < length plan.pipes.items) pipes
