-- What a run of a plan is made for, and the files of its nodes.
--
-- Each redirection and each operand is one open file, which one node reads or writes (POSIX.1-2017
-- XCU 2.7). An operand that could not be opened is missing, and counts for nothing (XCU 1.4,
-- CONSEQUENCES OF ERRORS).
use Rattle.std.specs.Prelude.{◌≡◌, ℕ, Option, Some, None, is_none, option_map, slice_get}
use Rattle.collector.specs.Files.{FilesShown}
use Rattle.run_types.specs.declared.names.InName.{InName}
use Rattle.run_types.specs.declared.names.OutName.{OutName}
use Rattle.filters.specs.declared.filter.Filter.{Filter}
use Rattle.pipeline_text.specs.declared.script.Script.{Script}
use Rattle.planner.specs.declared.plan.Node.{Node}
use Rattle.planner.specs.declared.plan.Node.TheVariants as node
use Rattle.planner.specs.Planned.{Planned, IsPlanOf, graph_of}
use Rattle.planner.specs.Stages.{AreBody}
use Rattle.network_laws.specs.State.{Setup}
use Rattle.network_nodes.specs.inner.Actors.{actor_at}
use Rattle.networks.specs.Networks.{Networked, in_file, out_file, in_name, out_name}
use Rattle.openings.specs.Answers.{OpenedFiles, own_file}
use Rattle.openings.specs.Openings.{OpensAll}

-- what a run of a plan is made for: its graph; the sources whose opening was refused; how many
-- items a pipe can grow to hold; how many bytes it can hold; and the greatest length of a piece
abbrev pub setup_of : Planned → OpenedFiles → ℕ → ℕ → ℕ → Setup
setup_of plan o most limit block =
    record {
      graph = graph_of plan;
      missing = λ k. is_none (own_file o k);
      most = most;
      limit = limit;
      block = block;
    }

-- a plan of a script that has a pipeline in the foreground
pub record IsOfScript (plan : Planned) : Type 0 where
  pub script : Script
  pub body : AreBody script.pipelines
  pub is_plan : IsPlanOf script plan

-- the plan's files were opened, with these answers
pub record IsOpening (plan : Planned) (o : OpenedFiles) : Type 0 where
  pub old : FilesShown
  pub new : FilesShown
  pub opens : OpensAll plan o old new

-- ---- the files of a node, where its own opening has this answer

-- the file that a source reads, if it was opened
abbrev pub source_file : Option Node → Option ℕ → Option ℕ
source_file (Some (node.Source (Some name))) own = own
source_file _ own = None

-- its name
abbrev pub source_name : Option Node → Option ℕ → Option InName
source_name (Some (node.Source (Some name))) own = option_map (λ file. name) own
source_name _ own = None

-- the file that a sink writes
abbrev pub sink_file : Option Node → Option ℕ → Option ℕ
sink_file (Some (node.Sink name)) own = own
sink_file _ own = None

-- its name
abbrev pub sink_name : Option Node → Option OutName
sink_name (Some (node.Sink name)) = Some name
sink_name _ = None

-- ---- the same by the number of the node

abbrev pub input_file : Planned → OpenedFiles → ℕ → Option ℕ
input_file plan o k = source_file (slice_get plan.nodes k) (own_file o k)

abbrev pub output_file : Planned → OpenedFiles → ℕ → Option ℕ
output_file plan o k = sink_file (slice_get plan.nodes k) (own_file o k)

abbrev pub input_name : Planned → OpenedFiles → ℕ → Option InName
input_name plan o k = source_name (slice_get plan.nodes k) (own_file o k)

abbrev pub output_name : Planned → ℕ → Option OutName
output_name plan k = sink_name (slice_get plan.nodes k)

-- each node of a network has the files of that node of the plan, and their names
pub record HasFilesOf (plan : Planned) (o : OpenedFiles) (n : Networked Filter) : Type 0 where
  pub inputs : (k : ℕ) → in_file (actor_at n.nodes k) ≡ input_file plan o k
  pub outputs : (k : ℕ) → out_file (actor_at n.nodes k) ≡ output_file plan o k
  pub input_names : (k : ℕ) → in_name (actor_at n.nodes k) ≡ input_name plan o k
  pub output_names : (k : ℕ) → out_name (actor_at n.nodes k) ≡ output_name plan k
