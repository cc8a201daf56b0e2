-- What is asked of the plan of a network, and what a new network is made for.
use Rattle.std.specs.Prelude.{◌≡◌, ℕ, ◌<◌, ◌≤◌, List, [], length, Bool}
use Rattle.std.specs.Prelude.{Option, Some, None, slice_get, map, is_none, option_map}
use Rattle.std.specs.Global.{Vec}
use Rattle.machine.specs.Pieces.{IsBlock}
use Rattle.machine.specs.Law.{Shown, IsNew as IsNewMachine}
use Rattle.machine.specs.Whole.{WholeAnswer}
use Rattle.bounded_pipe.specs.Ends.{IsCapacity, IsLimit}
use Rattle.collector.specs.Files.{FilesShown, nothing_read, nothing_written}
use Rattle.run_types.specs.declared.names.InName.{InName}
use Rattle.run_types.specs.declared.names.OutName.{OutName}
use Rattle.graphs.specs.Graph.{Graph, GraphNode, Source, Stage, Sink, IsPlan, node_at}
use Rattle.network_laws.specs.State.{Setup, told, gives_nothing}
use Rattle.network_nodes.specs.declared.actor.Actor.{Actor}
use Rattle.network_nodes.specs.declared.making.NodeSpec.{NodeSpec}
use Rattle.network_nodes.specs.declared.making.NodeSpec.TheVariants as pl
use Rattle.networks.specs.Networks.{no_filter, setup_status, in_file, out_file, in_name, out_name}

-- ---- what is asked of the sizes

-- These are sizes of pipes and pieces.
pub record AreSizes (capacity most bytes block : ℕ) : Type 0 where
  -- a pipe can be made for this many items and bytes
  pub capacity_is : IsCapacity capacity
  pub bytes_is : IsLimit bytes
  -- it can grow to hold `most` items, which it could be made for
  pub grows : capacity ≤ most
  pub most_is : most ≤ 4096
  -- a piece may be of this length, and a pipe takes one
  pub block_is : IsBlock block
  pub roomy : block ≤ bytes

-- ---- what is asked of a plan

module _ {M : Type 0} where
  -- the node in a graph, whatever its filter is
  abbrev pub shape_node : NodeSpec M → GraphNode
  shape_node (pl.Source file) = Source (is_none file)
  shape_node (pl.Stage machine inputs branches) = Stage no_filter inputs.items branches.items
  shape_node (pl.Sink file name) = Sink

  -- the graph of these, whatever the filters are
  abbrev pub shape_of : List (NodeSpec M) → List (ℕ × ℕ) → ℕ × Bool → Graph
  shape_of nodes pipes result =
      record {
        nodes = map shape_node nodes;
        pipes = pipes;
        result = result;
      }

  -- a stage has at least one input, as many as its machine, and at most 33 branches
  abbrev pub IsSized : (M → Shown) → NodeSpec M → Type 0
  IsSized shows (pl.Source file) = Unit {0}
  IsSized shows (pl.Stage machine inputs branches) =
      (0 < length inputs.items) × ((shows machine).inputs ≡ length inputs.items)
      × (length branches.items ≤ 33)
  IsSized shows (pl.Sink file name) = Unit {0}

  -- the files of a node: the one that it reads, and the one that it writes
  abbrev pub read_file : NodeSpec M → Option ℕ
  read_file (pl.Source file) = option_map (λ f. f.0) file
  read_file (pl.Stage machine inputs branches) = None
  read_file (pl.Sink file name) = None

  abbrev pub written_file : NodeSpec M → Option ℕ
  written_file (pl.Source file) = None
  written_file (pl.Stage machine inputs branches) = None
  written_file (pl.Sink file name) = Some file

  -- their names: that of the file that it reads, and that of the file that it writes
  abbrev pub read_name : NodeSpec M → Option InName
  read_name (pl.Source file) = option_map (λ f. f.1) file
  read_name (pl.Stage machine inputs branches) = None
  read_name (pl.Sink file name) = None

  abbrev pub written_name : NodeSpec M → Option OutName
  written_name (pl.Source file) = None
  written_name (pl.Stage machine inputs branches) = None
  written_name (pl.Sink file name) = Some name

  -- no two nodes read one open file, and no two write one
  pub record HaveOwnFiles (nodes : List (NodeSpec M)) : Type 0 where
    pub ins : (j k file : ℕ) (a b : NodeSpec M) → slice_get nodes j ≡ Some a
        → slice_get nodes k ≡ Some b →
        read_file a ≡ Some file → read_file b ≡ Some file → j ≡ k
    pub outs : (j k file : ℕ) (a b : NodeSpec M) → slice_get nodes j ≡ Some a
        → slice_get nodes k ≡ Some b →
        written_file a ≡ Some file → written_file b ≡ Some file → j ≡ k

  -- what is asked of the plan of a network
  pub record CanBeMade (shows : M
      → Shown) (nodes : List (NodeSpec M)) (pipes : List (ℕ × ℕ)) : Type 0 where
    -- a node whose exit status is the run's, and whether `!` comes before its pipeline
    pub result : ℕ × Bool
    pub plan : IsPlan (shape_of nodes pipes result)
    pub sized : (k : ℕ) (node : NodeSpec M) → slice_get nodes k ≡ Some node → IsSized shows node
    pub apart : HaveOwnFiles nodes

module _ {M : Type 0} where
  -- the node has the files of this one of the plan, and their names
  pub record IsNodeOf (node : NodeSpec M) (a : Actor M) : Type 0 where
    pub in_file_is : in_file a ≡ read_file node
    pub out_file_is : out_file a ≡ written_file node
    pub in_name_is : in_name a ≡ read_name node
    pub out_name_is : out_name a ≡ written_name node

-- ---- what a new network is made for

module _ {M : Type 0} where
  -- The node k of the graph is this one: a source is missing just if it has no file, and a stage
  -- has a new machine of its filter, which knows which inputs are missing.
  pub data IsPlannedAs (shows : M → Shown) (s : Setup) (k : ℕ)
      : Option GraphNode → NodeSpec M → Type 0 where
    PlannedSource : {empty : Bool} {file : Option (ℕ × InName)}
        → is_none file ≡ gives_nothing s k empty
        → IsPlannedAs shows s k (Some (Source empty)) (pl.Source file)
    PlannedStage : {filter : WholeAnswer} {inputs : List ℕ} {branches : List (Option ℕ)}
        {machine : M} {ins : Vec ℕ} {outs : Vec (Option ℕ)}
        → (inputs ≡ ins.items) × (branches ≡ outs.items)
        × IsNewMachine (shows machine) filter (told s inputs)
        → IsPlannedAs shows s k (Some (Stage filter inputs branches)) (pl.Stage machine ins outs)
    PlannedSink : {file : ℕ} {name : OutName}
        → IsPlannedAs shows s k (Some Sink) (pl.Sink file name)

  -- The network is to be made for this setup: they are its nodes, its pipes, its exit status, its
  -- greatest capacity, its limit and its block.
  pub record AreFor (shows : M
      → Shown) (s : Setup) (nodes : List (NodeSpec M)) (pipes : List (ℕ
      × ℕ)) (status most limit block : ℕ) : Type 0 where
    pub plan : IsPlan s.graph
    pub count : length nodes ≡ length s.graph.nodes
    pub pipes_are : pipes ≡ s.graph.pipes
    pub status_is : status ≡ setup_status s
    pub most_is : most ≡ s.most
    pub limit_is : limit ≡ s.limit
    pub block_is : block ≡ s.block
    pub each : (k : ℕ) (node : NodeSpec M) → slice_get nodes k ≡ Some node
        → IsPlannedAs shows s k (node_at s.graph k) node

  -- the file of a node is open, and nothing was read or written
  abbrev pub IsFresh : FilesShown → NodeSpec M → Type 0
  IsFresh files (pl.Source None) = Unit {0}
  IsFresh files (pl.Source (Some file)) = files.inputs file.0 ≡ Some nothing_read
  IsFresh files (pl.Stage machine inputs branches) = Unit {0}
  IsFresh files (pl.Sink file name) = files.outputs file ≡ Some nothing_written

  -- and so are those of all nodes
  abbrev pub AreFresh : FilesShown → List (NodeSpec M) → Type 0
  AreFresh files nodes = (k : ℕ) (node : NodeSpec M) → slice_get nodes k ≡ Some node
      → IsFresh files node
