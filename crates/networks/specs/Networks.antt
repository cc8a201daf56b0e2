-- A network of every plan: what it shows, the state that it is in, what is so of it, and what a
-- step leaves.
--
-- The commands of a pipeline, and those that a FIFO joins, are nodes; a pipe has one that writes it
-- and one that reads it (POSIX.1-2017 XCU 2.9.2, Pipelines; XSH read, write; pipe(7)). The exit
-- status is that of the last command of the foreground pipeline, with 0 and 1 exchanged under `!`
-- (XCU 2.9.2).
use Rattle.std.specs.Prelude.{◌≡◌, ◌≢◌, ℕ, ◌<◌, ◌≤◌, Bool, List, length, Option, Some}
use Rattle.std.specs.Prelude.{None, IsSome, is_none, map, slice_get, slice_index, Contains, []}
use Rattle.std.specs.Global.{Vec}
use Rattle.std.specs.Option.{ForSome}
use Rattle.machine.specs.Law.{Shown}
use Rattle.machine.specs.Whole.{status_of, inputs_of, WholeAnswer}
use Rattle.bounded_pipe.specs.Ends.{Writing, Reading, AreEnds, Beside}
use Rattle.collector.specs.Files.{FilesShown, SameFiles, WritesOnly, TouchesOnly, log_of}
use Rattle.run_types.specs.declared.names.InName.{InName}
use Rattle.run_types.specs.declared.names.OutName.{OutName}
use Rattle.collector.specs.Nodes.{SourceFits, SinkFits, IsUnended, ReadsOwn, read_by, source_part}
use Rattle.collector.specs.Nodes.{sink_part, SourceShown, SinkShown}
use Rattle.run_types.specs.declared.node_state.NodeState.TheVariants as state
use Rattle.run_types.specs.declared.step.Step.{Step}
use Rattle.stages.specs.inner.Staged.{Staged}
use Rattle.stages.specs.inner.Steps.{InCase, HasState, part}
use Rattle.graphs.specs.Graph.{Graph, GraphNode, Source, Stage, Sink, IsPlan, node_at}
use Rattle.graphs.specs.Graph.{present}
use Rattle.network_laws.specs.State.{Part, OfSource, OfStage, OfSink, Setup, State, node_state_of}
use Rattle.network_laws.specs.State.{told, answer_of, gives_nothing}
use Rattle.network_laws.specs.Start.{new_source}
use Rattle.network_laws.specs.Sequential.{negated}
use Rattle.network_laws.specs.Steps.{IsStep, StepIs}
use Rattle.network_nodes.specs.declared.actor.Actor.{Actor}
use Rattle.network_nodes.specs.declared.actor.Actor.TheVariants as an
use Rattle.network_nodes.specs.declared.actor.Link.{Link}
use Rattle.network_nodes.specs.inner.Actors.{no_writing, no_reading, outs_of, ins_of, out_pipes}
use Rattle.network_nodes.specs.inner.Actors.{in_pipes, out_at, in_at, actor_at}
use Rattle.network_nodes.specs.inner.MadeNodes.{wires_at}
use Rattle.networks.specs.declared.parts.NetworkParts.{NetworkParts}

-- the nodes in planned order; the two ends of each pipe, by the pipe's number; the pipes of each
-- node, by the node's; the exit status of a run that finishes; and how many items a pipe can grow
-- to hold
pub record Networked (M : Type 0) : Type 0 where
  pub nodes : List (Actor M)
  pub pipes : List Link
  pub wires : List (List ℕ)
  pub status : ℕ
  pub most : ℕ

-- the network of these parts, as the code holds them
abbrev pub networked : {M : Type 0} → List (Actor M) → List Link → List (Vec ℕ) → ℕ → ℕ
    → Networked M
networked nodes pipes wires status most =
    record {
      nodes = nodes;
      pipes = pipes;
      wires = map (λ v. v.items) wires;
      status = status;
      most = most;
    }

abbrev pub network_of : {M : Type 0} → NetworkParts M → Networked M
network_of parts =
    networked parts.nodes.items parts.pipes.items parts.wires.items parts.status parts.most

-- the exit status of a stage, if these of its inputs are missing; of any other node 0
abbrev pub told_status : Setup → Option GraphNode → ℕ
told_status s (Some (Stage filter inputs branches)) =
    status_of (inputs_of (told s inputs) (λ i. []))
told_status s _ = 0

-- the exit status of a run that finishes: that of the result node, with 0 and 1 exchanged under `!`
abbrev pub setup_status : Setup → ℕ
setup_status s = negated s.graph.result.1 (told_status s (node_at s.graph s.graph.result.0))

-- the writer and the reader of a pipe
abbrev pub joins : Link → ℕ × ℕ
joins l = (l.writer, l.reader)

-- ---- its state

module _ {M : Type 0} where
  -- the two ends of a pipe with this link, or of no pipe
  abbrev pub writing_by : List (Actor M) → Option Link → Writing
  writing_by nodes None = no_writing
  writing_by nodes (Some l) = out_at nodes l

  abbrev pub reading_by : List (Actor M) → Option Link → Reading
  reading_by nodes None = no_reading
  reading_by nodes (Some l) = in_at nodes l

  -- a node without its ends
  abbrev pub part_of : (M → Shown) → FilesShown → Actor M → Part
  part_of shows files (an.Source x) = OfSource (source_part (read_by files x.file).bytes x)
  part_of shows files (an.Stage t) = OfStage (part shows t)
  part_of shows files (an.Sink y) = OfSink (sink_part (log_of files y.file) y)
  part_of shows files an.Lent = OfSource new_source

  -- the state that these nodes make up, if their files show this
  abbrev pub state_by : (M → Shown) → List (Actor M) → List Link → FilesShown → State
  state_by shows nodes pipes files = record {
    writing = λ p. writing_by nodes (slice_get pipes p);
    reading = λ p. reading_by nodes (slice_get pipes p);
    part = λ k. part_of shows files (actor_at nodes k);
  }

  -- that of the network
  abbrev pub network_state : (M → Shown) → Networked M → FilesShown → State
  network_state shows n files = state_by shows n.nodes n.pipes files

  -- ---- the tables

  -- the pipe p is the own pipe of the two nodes that its link names, at these places; its writer
  -- comes first
  pub record IsPlaced (nodes : List (Actor M)) (p : ℕ) (l : Link) : Type 0 where
    pub order : l.writer < l.reader
    pub within : l.reader < length nodes
    pub out : slice_get (out_pipes (actor_at nodes l.writer)) l.branch ≡ Some p
    pub in_ : slice_get (in_pipes (actor_at nodes l.reader)) l.input ≡ Some p

  -- the link of each of the node's own pipes leads back to it, and it has an end for each
  pub record IsNumbered (pipes : List Link) (k : ℕ) (a : Actor M) : Type 0 where
    pub outs : (b p : ℕ) → slice_get (out_pipes a) b ≡ Some p
        → (l : Link) × (slice_get pipes p ≡ Some l) × (l.writer ≡ k) × (l.branch ≡ b)
    pub ins : (b p : ℕ) → slice_get (in_pipes a) b ≡ Some p
        → (l : Link) × (slice_get pipes p ≡ Some l) × (l.reader ≡ k) × (l.input ≡ b)
    pub out_count : length (outs_of a) ≡ length (out_pipes a)
    pub in_count : length (ins_of a) ≡ length (in_pipes a)

  -- the links of the pipes and the numbers of the nodes agree
  pub record AreWired (nodes : List (Actor M)) (pipes : List Link) : Type 0 where
    pub placed : (p : ℕ) (l : Link) → slice_get pipes p ≡ Some l → IsPlaced nodes p l
    pub numbered : (k : ℕ) → IsNumbered pipes k (actor_at nodes k)

  -- the two ends of each pipe are ends of one pipe; and they were looked at from both sides
  abbrev pub AreEndsOf : List (Actor M) → List Link → Type 0
  AreEndsOf nodes pipes = (p : ℕ) (l : Link) → slice_get pipes p ≡ Some l
      → AreEnds (out_at nodes l) (in_at nodes l)

  abbrev pub AreBeside : List (Actor M) → List Link → Type 0
  AreBeside nodes pipes = (p : ℕ) (l : Link) → slice_get pipes p ≡ Some l
      → Beside (out_at nodes l) (in_at nodes l)

  -- it is no free place
  abbrev pub IsHere : Actor M → Type 0
  IsHere (an.Source x) = Unit {0}
  IsHere (an.Stage t) = Unit {0}
  IsHere (an.Sink y) = Unit {0}
  IsHere an.Lent = ⊥

-- these are numbers of pipes
abbrev pub AreWithin : List Link → List ℕ → Type 0
AreWithin pipes wires = (i : ℕ) → i < length wires → slice_index wires i < length pipes

-- Each node's list has all pipes that it reads or writes.
pub record HasWires (pipes : List Link) (wires : List (List ℕ)) : Type 0 where
  pub within : (k : ℕ) → AreWithin pipes (wires_at wires k)
  pub all : (p : ℕ) (l : Link) → slice_get pipes p ≡ Some l
      → Contains (wires_at wires l.writer) p × Contains (wires_at wires l.reader) p

-- ---- what is so of a network

-- a filter that gives nothing
abbrev pub no_filter : WholeAnswer
no_filter ins = record { out = []; count = 0 }

-- what a node is from first to last: its shape, the pipes that it writes and reads, the numbers and
-- names of the files that it reads and writes, and the greatest length of a piece that it makes
pub record Face : Type 0 where
  pub shape : Option GraphNode
  pub outs : List ℕ
  pub ins : List ℕ
  pub in_file : Option ℕ
  pub out_file : Option ℕ
  pub in_name : Option InName
  pub out_name : Option OutName
  pub block : ℕ

module _ {M : Type 0} where
  -- the files of a node: the one that it reads, and the one that it writes
  abbrev pub in_file : Actor M → Option ℕ
  in_file (an.Source x) = x.file
  in_file _ = None

  abbrev pub out_file : Actor M → Option ℕ
  out_file (an.Sink y) = Some y.file
  out_file _ = None

  -- their names: that of a source's file, and that of a sink's
  abbrev pub in_name : Actor M → Option InName
  in_name (an.Source x) = x.name
  in_name _ = None

  abbrev pub out_name : Actor M → Option OutName
  out_name (an.Sink y) = Some y.name
  out_name _ = None

  -- the greatest length of a piece of a node that makes pieces
  abbrev pub block_of : Actor M → ℕ
  block_of (an.Source x) = x.block
  block_of (an.Stage t) = t.outlet.block
  block_of _ = 0

  -- the node in a graph, whatever its filter is, with the branches that somebody reads; none in a
  -- free place
  abbrev pub shape : Actor M → Option GraphNode
  shape (an.Source x) = Some (Source (is_none x.file))
  shape (an.Stage t) =
      Some (Stage no_filter t.inlet.pipes (map (λ p. Some p) t.outlet.pipes))
  shape (an.Sink y) = Some Sink
  shape an.Lent = None

  -- what a node is from first to last
  abbrev pub face : Actor M → Face
  face a = record {
    shape = shape a;
    outs = out_pipes a;
    ins = in_pipes a;
    in_file = in_file a;
    out_file = out_file a;
    in_name = in_name a;
    out_name = out_name a;
    block = block_of a;
  }

  -- it is from first to last what it was
  abbrev pub SameActor : Actor M → Actor M → Type 0
  SameActor old new = face new ≡ face old

  -- how many items a pipe can hold, by its number
  abbrev pub rooms : Networked M → ℕ → ℕ
  rooms n p = (writing_by n.nodes (slice_get n.pipes p)).capacity

  -- What a network is from first to last. The capacity that a pipe had and the one that it has are
  -- as `R` says.
  pub record IsNetwork (R : ℕ → ℕ → Type 0) (old new : Networked M) : Type 0 where
    pub pipes : new.pipes ≡ old.pipes
    pub wires : new.wires ≡ old.wires
    pub status : new.status ≡ old.status
    pub most : new.most ≡ old.most
    pub count : length new.nodes ≡ length old.nodes
    pub nodes : (k : ℕ) → SameActor (actor_at old.nodes k) (actor_at new.nodes k)
    pub rooms : (p : ℕ) → R (rooms old p) (rooms new p)

  -- the same network, whose pipes have the capacities that they had
  abbrev pub SameNetwork : Networked M → Networked M → Type 0
  SameNetwork old new = IsNetwork (λ had has. has ≡ had) old new

  -- the same network, whose pipes may have grown
  abbrev pub GrownNetwork : Networked M → Networked M → Type 0
  GrownNetwork old new = IsNetwork (λ had has. had ≤ has) old new

  -- A step of this node reads and writes no file but its own.
  abbrev pub TouchesOwn : Actor M → FilesShown → FilesShown → Type 0
  TouchesOwn (an.Source x) old new = ReadsOwn x.file old new
  TouchesOwn (an.Stage t) old new = SameFiles old new
  TouchesOwn (an.Sink y) old new = WritesOnly y.file old new
  TouchesOwn an.Lent old new = SameFiles old new

  -- one of these nodes reads the file, or writes it
  abbrev pub IsReadBy : List (Actor M) → ℕ → Type 0
  IsReadBy nodes file = (k : ℕ) × (in_file (actor_at nodes k) ≡ Some file)

  abbrev pub IsWrittenBy : List (Actor M) → ℕ → Type 0
  IsWrittenBy nodes file = (k : ℕ) × (out_file (actor_at nodes k) ≡ Some file)

  -- No file was touched but those of these nodes.
  abbrev pub TouchesNodes : List (Actor M) → FilesShown → FilesShown → Type 0
  TouchesNodes nodes old new = TouchesOnly (IsReadBy nodes) (IsWrittenBy nodes) old new

  -- no two nodes read one open file, and no two write one
  pub record AreApart (nodes : List (Actor M)) : Type 0 where
    pub ins : (j k file : ℕ) → j ≢ k → in_file (actor_at nodes j) ≡ Some file
        → in_file (actor_at nodes k) ≡ Some file → ⊥
    pub outs : (j k file : ℕ) → j ≢ k → out_file (actor_at nodes j) ≡ Some file
        → out_file (actor_at nodes k) ≡ Some file → ⊥

  -- each pipe takes an item at least, and as many as the most at most, which a pipe can be made for
  pub record HasRooms (n : Networked M) : Type 0 where
    pub some : (p : ℕ) (l : Link) → slice_get n.pipes p ≡ Some l → 0 < (out_at n.nodes l).capacity
    pub within : (p : ℕ) (l : Link) → slice_get n.pipes p ≡ Some l
        → (out_at n.nodes l).capacity ≤ n.most
    pub most : n.most ≤ 4096

  -- What is so of every network: its tables fit its nodes, the two ends of each pipe were looked at
  -- from both sides, no node is lent, no two have one file, and the capacities of its pipes are
  -- within bounds.
  pub record IsJoined (n : Networked M) : Type 0 where
    pub wired : AreWired n.nodes n.pipes
    pub beside : AreBeside n.nodes n.pipes
    pub wires : HasWires n.pipes n.wires
    pub lists : length n.wires ≡ length n.nodes
    pub here : (k : ℕ) → k < length n.nodes → IsHere (actor_at n.nodes k)
    pub apart : AreApart n.nodes
    pub rooms : HasRooms n

  -- the node's file is open
  abbrev pub HasFile : FilesShown → Actor M → Type 0
  HasFile files (an.Source x) = ForSome x.file (λ file. IsSome (files.inputs file))
  HasFile files (an.Stage t) = Unit {0}
  HasFile files (an.Sink y) = IsSome (files.outputs y.file)
  HasFile files an.Lent = Unit {0}

  -- the file of each node is open
  abbrev pub HasOpened : Networked M → FilesShown → Type 0
  HasOpened n files = (k : ℕ) → HasFile files (actor_at n.nodes k)

  -- ---- what is so of its nodes

  -- The node k is this one of the plan, and in its case.
  pub data FitsAt (shows : M → Shown) (s : Setup) (files : FilesShown) (k : ℕ)
      : Option GraphNode → Actor M → Type 0 where
    FitsSource : {empty : Bool} {x : SourceShown} → is_none x.file ≡ gives_nothing s k empty
        → SourceFits (read_by files x.file) x → x.block ≡ s.block
        → FitsAt shows s files k (Some (Source empty)) (an.Source x)
    FitsStage : {filter : WholeAnswer} {inputs : List ℕ} {branches : List (Option ℕ)} {t : Staged M}
        → t.inlet.pipes ≡ inputs → t.outlet.pipes ≡ present branches
        → InCase shows (answer_of filter (told s inputs)) t → t.outlet.block ≡ s.block
        → FitsAt shows s files k (Some (Stage filter inputs branches)) (an.Stage t)
    FitsSink : {y : SinkShown} → SinkFits (log_of files y.file) y → IsUnended y
        → FitsAt shows s files k (Some Sink) (an.Sink y)

  -- the tables are those of the graph
  pub record IsOf (g : Graph) (n : Networked M) : Type 0 where
    pub count : length n.nodes ≡ length g.nodes
    pub pipes : map joins n.pipes ≡ g.pipes

  -- What is so of the network between steps: it is that of the plan, each node is in its case, its
  -- pipes were looked at from both sides and can grow to the run's greatest capacity, and each has
  -- the run's limit in bytes, which is at least the greatest length of a piece.
  pub record IsRight (shows : M
      → Shown) (s : Setup) (n : Networked M) (files : FilesShown) : Type 0 where
    pub plan : IsPlan s.graph
    pub graph : IsOf s.graph n
    pub status : n.status ≡ setup_status s
    pub most : n.most ≡ s.most
    pub joined : IsJoined n
    pub limits : (p : ℕ) (l : Link) → slice_get n.pipes p ≡ Some l
        → (out_at n.nodes l).limit ≡ s.limit
    pub roomy : s.block ≤ s.limit
    pub fits : (k : ℕ) → k < length n.nodes
        → FitsAt shows s files k (node_at s.graph k) (actor_at n.nodes k)

  -- ---- what a step leaves

  -- a network that is right stays so
  abbrev pub StaysRight : (M → Shown) → Networked M → Networked M → FilesShown → FilesShown → Type 0
  StaysRight shows old new before after = (s : Setup) → IsRight shows s old before
      → IsRight shows s new after

  -- it is a step of the node k in each graph with these tables
  abbrev pub StepsNode : (M → Shown) → ℕ → Networked M → Networked M → FilesShown → FilesShown
      → Type 0
  StepsNode shows k old new before after = (g : Graph) → IsOf g old →
      IsStep g k (network_state shows old before) (network_state shows new after) before.failures
      after.failures

  -- in a network that is right its result means what it should
  abbrev pub SaysTruly : (M → Shown) → ℕ → Networked M → Networked M → FilesShown → FilesShown
      → Step → Type 0
  SaysTruly shows k old new before after step = (s : Setup) → IsRight shows s old before →
      StepIs s (network_state shows old before) (network_state shows new after) k step

  -- its result says the state of the node k after it
  abbrev pub StateSays : (M → Shown) → ℕ → Networked M → FilesShown → Step → Type 0
  StateSays shows k new after step =
      HasState (node_state_of (part_of shows after (actor_at new.nodes k))) step

  -- the node k does not run
  abbrev pub IsHalted : (M → Shown) → ℕ → Networked M → FilesShown → Type 0
  IsHalted shows k n files =
      node_state_of (part_of shows files (actor_at n.nodes k)) ≢ state.Running
