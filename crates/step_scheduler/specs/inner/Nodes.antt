-- The nodes of a network as they are made of a plan's: each source and sink with its own open file,
-- each stage with a machine that knows which inputs are missing (POSIX.1-2017 XCU 1.4, 2.9.2).
use Rattle.std.specs.Prelude.{◌≡◌, ℕ, List, length, Option, Some, None, IsSome, option_map}
use Rattle.std.specs.Prelude.{slice_get}
use Rattle.machine.specs.Law.{IsNew}
use Rattle.machine.specs.declared.protocol.Presence.{Presence}
use Rattle.filters.specs.declared.filter.Filter.{Filter}
use Rattle.commands.specs.Filters.{filter_whole, input_count}
use Rattle.filters.specs.FilterShows.{filter_shows}
use Rattle.planner.specs.declared.plan.Node.{Node}
use Rattle.planner.specs.declared.plan.Node.TheVariants as node
use Rattle.planner.specs.Planned.{Planned}
use Rattle.network_nodes.specs.declared.making.NodeSpec as made
use Rattle.network_nodes.specs.declared.making.NodeSpec.TheVariants as pl
use Rattle.network_laws.specs.State.{told}
use Rattle.openings.specs.Answers.{OpenedFiles, own_file}
use Rattle.step_scheduler.specs.Setups.{setup_of}

-- for each of these inputs of a stage, whether it is there, as the machine knows
abbrev pub presences_of : Planned → OpenedFiles → List ℕ → List Presence
presences_of plan o inputs = told (setup_of plan o 0 0 0) inputs

-- what is asked of a node whose own opening has this answer: a stage has the inputs of its filter,
-- and the file of a sink is there
abbrev pub CanBeNode : Node → Option ℕ → Type 0
CanBeNode (node.Source name) own = Unit {0}
CanBeNode (node.Stage number filter inputs branches) own = length inputs ≡ input_count filter
CanBeNode (node.Sink name) own = IsSome own

-- The node was made of this one, whose own opening has this answer, and a stage knows this of these
-- inputs.
abbrev pub IsMadeOf : (List ℕ → List Presence) → Option ℕ → Node → made.NodeSpec Filter → Type 0
IsMadeOf told own (node.Source None) (pl.Source file) = file ≡ None
IsMadeOf told own (node.Source (Some name)) (pl.Source file) = file
    ≡ option_map (λ f. (f, name)) own
IsMadeOf told own (node.Stage number filter inputs branches) (pl.Stage machine ins outs) =
    (ins.items ≡ inputs) × (outs.items ≡ branches)
    × IsNew (filter_shows machine) (filter_whole filter) (told inputs)
IsMadeOf told own (node.Sink name) (pl.Sink file other) = (own ≡ Some file) × (other ≡ name)
IsMadeOf told own _ _ = ⊥

-- each node of a plan can be made
abbrev pub CanBeNodes : Planned → OpenedFiles → Type 0
CanBeNodes plan o = (k : ℕ) (n : Node) → slice_get plan.nodes k ≡ Some n
    → CanBeNode n (own_file o k)

-- these are made of the nodes of a plan, in order
pub record AreMadeOf (plan : Planned) (o : OpenedFiles) (nodes : List (made.NodeSpec Filter)) : Type
    0 where
  pub count : length nodes ≡ length plan.nodes
  pub each : (k : ℕ) (n : Node) (m : made.NodeSpec Filter) → slice_get plan.nodes k ≡ Some n
      → slice_get nodes k ≡ Some m
      → IsMadeOf (presences_of plan o) (own_file o k) n m
