-- The tables of a plan: its nodes in planned order, and its pipes.
--
-- A pipe joins a branch that is written to an input that is used (POSIX.1-2017 XCU 2.9.2). What no
-- stage writes comes from a source, and what goes to no stage goes to a sink, by pipes of their
-- own.
use Rattle.std.specs.Prelude.{ℕ, zero, suc, ◌==◌, ◌&&◌, Bool, false, List, [], ◌∷◌, ◌++◌, map}
use Rattle.std.specs.Prelude.{length, Option, Some, None, nat_lt, slice_get, if◌then◌else◌}
use Rattle.std.specs.List.{flat_map, filter, position_or_len}
use Rattle.std.specs.Option.{option_to_list}
use Rattle.run_types.specs.declared.names.InName.{InName}
use Rattle.run_types.specs.declared.names.InName.TheVariants as input
use Rattle.run_types.specs.declared.names.OutName.{OutName}
use Rattle.run_types.specs.declared.names.OutName.TheVariants as output
use Rattle.planner.specs.declared.plan.Node.{Node}
use Rattle.planner.specs.declared.plan.Node.TheVariants as node
use Rattle.planner.specs.declared.plan.NodeName.{NodeName}
use Rattle.planner.specs.declared.plan.NodeName.TheVariants.{SourceOf, StageAt, SinkOf}
use Rattle.planner.specs.declared.plan.Pipe.{Pipe}
use Rattle.planner.specs.declared.place.Place.{Place}
use Rattle.planner.specs.declared.place.Place.TheVariants as place
use Rattle.planner.specs.declared.place.End.{End}
use Rattle.planner.specs.Places.{Stage, in_places, out_places}
use Rattle.planner.specs.Ends.{is_outside, meets, leaves, unfed, leaving}

-- ---- the nodes

abbrev pub is_same_node : NodeName → NodeName → Bool
is_same_node (SourceOf s i) (SourceOf t j) = (s == t) && (i == j)
is_same_node (StageAt s) (StageAt t) = s == t
is_same_node (SinkOf s b) (SinkOf t c) = (s == t) && (b == c)
is_same_node _ _ = false

-- the source of an input, and the sink of a branch
abbrev pub source_of : End → NodeName
source_of i = SourceOf i.stage i.number

abbrev pub sink_of : End → NodeName
sink_of o = SinkOf o.stage o.number

-- The nodes in planned order: the sources, by stage in script order and then by input; the stages
-- in this order; the sinks, by stage in script order and then by branch.
abbrev pub names_of : List End → List End → List ℕ → List NodeName
names_of ins outs order = map source_of (unfed ins outs) ++ map StageAt order
    ++ map sink_of (leaving outs)

-- the number of a node
abbrev pub number_of : List NodeName → NodeName → ℕ
number_of nodes name = position_or_len (λ other. is_same_node other name) nodes

-- ---- the pipes

-- the pipe to an input, from this branch of this node; the pipe of a source; the pipe of a branch
-- to its sink
abbrev pub pipe_to : NodeName → ℕ → End → Pipe
pipe_to writer branch i =
    record {
      writer = writer;
      branch = branch;
      reader = StageAt i.stage;
      input = i.number;
    }

abbrev pub pipe_of_source : End → Pipe
pipe_of_source i = pipe_to (source_of i) 0 i

abbrev pub pipe_to_sink : End → Pipe
pipe_to_sink o =
    record {
      writer = StageAt o.stage;
      branch = o.number;
      reader = sink_of o;
      input = 0;
    }

-- the pipes of a branch: to its sink, or to the input that it meets, if there is one
abbrev pub pipes_of_branch : List End → End → List Pipe
pipes_of_branch ins o = if leaves o then pipe_to_sink o ∷ []
    else map (pipe_to (StageAt o.stage) o.number) (filter (meets o) ins)

-- the branches of a stage
abbrev pub branches_at : List End → ℕ → List End
branches_at outs s = filter (λ (o : End). o.stage == s) outs

abbrev pub pipes_of_stage : List End → List End → ℕ → List Pipe
pipes_of_stage ins outs s = flat_map (pipes_of_branch ins) (branches_at outs s)

-- All pipes, by writer in planned order and then by branch.
abbrev pub pipes_of : List End → List End → List ℕ → List Pipe
pipes_of ins outs order = map pipe_of_source (unfed ins outs)
    ++ flat_map (pipes_of_stage ins outs) order

-- the numbers of a pipe's writer and reader
abbrev pub ends_of : List NodeName → Pipe → ℕ × ℕ
ends_of nodes p = (number_of nodes p.writer, number_of nodes p.reader)

-- the number of the pipe that an input of a stage reads
abbrev pub is_read_by : ℕ → ℕ → Pipe → Bool
is_read_by s i p = is_same_node p.reader (StageAt s) && (p.input == i)

abbrev pub pipe_of_input : List Pipe → ℕ → ℕ → ℕ
pipe_of_input ps s i = position_or_len (is_read_by s i) ps

-- the number of the pipe that a branch of a stage writes, if there is one; a branch that nobody
-- reads is absent
abbrev pub is_written_by : ℕ → ℕ → Pipe → Bool
is_written_by s b p = is_same_node p.writer (StageAt s) && (p.branch == b)

abbrev pub if_below : ℕ → ℕ → Option ℕ
if_below n k = if nat_lt k n then Some k else None

abbrev pub pipe_of_branch : List Pipe → ℕ → ℕ → Option ℕ
pipe_of_branch ps s b = if_below (length ps) (position_or_len (is_written_by s b) ps)

-- ---- the nodes with their pipes

-- the name of what is opened for an input, and for an output
abbrev pub in_name : Place → InName
in_name (place.File name append) = input.File name
in_name _ = input.Standard

abbrev pub out_name : Place → OutName
out_name (place.File name append) = output.File name append
out_name _ = output.Standard

-- what a source opens: nothing if there is nothing to read
abbrev pub in_name_of : Place → Option InName
in_name_of p = if is_outside p then Some (in_name p) else None

-- numbers, this many, from a on
abbrev pub numbers_from : ℕ → ℕ → List ℕ
numbers_from a zero = []
numbers_from a (suc n) = a ∷ numbers_from (suc a) n

abbrev pub source_node : End → Node
source_node i = node.Source (in_name_of i.place)

abbrev pub sink_node : End → Node
sink_node o = node.Sink (out_name o.place)

abbrev pub input_pipes : List (List ℕ) → List Pipe → Stage → List ℕ
input_pipes fifos ps s =
    map (pipe_of_input ps s.index) (numbers_from 0 (length (in_places fifos s)))

abbrev pub branch_pipes : List (List ℕ) → List Pipe → Stage → List (Option ℕ)
branch_pipes fifos ps s =
    map (pipe_of_branch ps s.index) (numbers_from 0 (length (out_places fifos s)))

abbrev pub stage_node : List (List ℕ) → List Pipe → Stage → Node
stage_node fifos ps s =
    node.Stage (suc s.index) s.filter (input_pipes fifos ps s) (branch_pipes fifos ps s)

-- the stage with this index
abbrev pub stage_at : List Stage → ℕ → List Stage
stage_at stages k = option_to_list (slice_get stages k)

abbrev pub nodes_of : List (List ℕ) → List Stage → List End → List End → List ℕ → List Node
nodes_of fifos stages ins outs order =
    map source_node (unfed ins outs)
    ++ map (stage_node fifos (pipes_of ins outs order)) (flat_map (stage_at stages) order)
    ++ map sink_node (leaving outs)
