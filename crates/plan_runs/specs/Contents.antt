-- What files hold after a run of a plan, and the answer of a plan from contents to contents.
--
-- An output file holds what the commands wrote to it, after what it held before if it was opened to
-- append (POSIX.1-2017 XCU 2.7.2, 2.7.3). A file that no command writes keeps what it holds.
use Rattle.std.specs.Prelude.{◌≡◌, ℕ, List, [], ◌++◌, Option, Some, None, option_and_then}
use Rattle.std.specs.List.{slice_get}
use mathlib.Core.List.{IsPrefix}
use Rattle.collector.specs.Files.{FilesShown, content_for, left_of}
use Rattle.graphs.specs.Graph.{Reads}
use Rattle.network_laws.specs.Sequential.{Contents, answer, answer_status}
use Rattle.network_laws.specs.declared.outcome.Outcome.{Outcome}
use Rattle.network_laws.specs.declared.outcome.Outcome.TheVariants as outcome
use Rattle.run_types.specs.Destinations.{Destination, destination_of, is_kept}
use Rattle.networks.specs.Turns.{written_by}
use Rattle.collector.specs.Nodes.{read_by}
use Rattle.machine.specs.FrontLines.{first_lines}
use Rattle.openings.specs.Answers.{OpenedFiles}
use Rattle.openings.specs.Needs.{IsReadByHead}
use Rattle.run_types.specs.declared.names.InName.{InName}
use Rattle.planner.specs.Planned.{Planned, graph_of}
use Rattle.planner.specs.declared.plan.OutOpening.{OutOpening}
use Rattle.step_scheduler.specs.Setups.{input_file, input_name, output_file}

-- what the writes of this node's file took; nothing if no node writes the file
abbrev pub written_for : Planned → OpenedFiles → FilesShown → Option ℕ → List ℕ
written_for plan opened files None = []
written_for plan opened files (Some k) = written_by files (output_file plan opened k)

-- The files of a plan were opened and the plan was run; `old` and `new` are what the files showed
-- before the openings and after the run. The destination of each output holds what was left of it,
-- and then what its node wrote. Every other destination holds what it held.
pub record HoldsOutputs (plan : Planned) (opened : OpenedFiles) (old new : FilesShown) : Type 0
  where
    pub outputs : (place : ℕ) (o : OutOpening) → slice_get plan.outputs place ≡ Some o →
        new.contents (destination_of o.name)
        ≡ Some (left_of (is_kept o.name) (old.contents (destination_of o.name))
        ++ written_for plan opened new o.node)
    pub others : (d : Destination)
        → ((place : ℕ) (o : OutOpening) → slice_get plan.outputs place ≡ Some o
        → destination_of o.name ≡ d → ⊥) →
        new.contents d ≡ old.contents d

-- What the sources of a plan hold: of each whose file was opened, what the file of its name held
-- when the files showed this. A source of the standard input holds what that had to give, and one
-- whose operand was missing holds nothing.
abbrev pub contents_of : Planned → OpenedFiles → FilesShown → Contents
contents_of plan opened files k = option_and_then (content_for files) (input_name plan opened k)

-- What a run of a plan leaves in the files, from what they held before the openings. The
-- destination of an output holds what was left of it, and then what was written: of its list in the
-- sequential answer to what the sources held, as much as `IsWritten` says. An output that no node
-- writes holds what was left of it. Every other destination holds what it held.
pub record LeavesFiles (IsWritten : List ℕ → List ℕ → Type 0) (plan : Planned)
    (opened : OpenedFiles) (old new : FilesShown) : Type 0 where
  pub written : (place k p : ℕ) (o : OutOpening) → slice_get plan.outputs place ≡ Some o
      → o.node ≡ Some k → Reads (graph_of plan) k p →
      (bytes : List ℕ) × IsWritten bytes (answer (graph_of plan) (contents_of plan opened old) p)
      × (new.contents (destination_of o.name)
      ≡ Some (left_of (is_kept o.name) (old.contents (destination_of o.name)) ++ bytes))
  pub unwritten : (place : ℕ) (o : OutOpening) → slice_get plan.outputs place ≡ Some o
      → o.node ≡ None →
      new.contents (destination_of o.name)
      ≡ Some (left_of (is_kept o.name) (old.contents (destination_of o.name)))
  pub others : (d : Destination)
      → ((place : ℕ) (o : OutOpening) → slice_get plan.outputs place ≡ Some o
      → destination_of o.name ≡ d → ⊥) →
      new.contents d ≡ old.contents d

-- What a run takes of an input that a head alone reads: no more than the first lines, as many as
-- head takes. What follows them stays in the file for others (POSIX.1-2017 XCU 1.4, INPUT FILES).
abbrev pub LeavesRests : Planned → OpenedFiles → FilesShown → FilesShown → Type 0
LeavesRests plan opened old new =
    (k n : ℕ) (name : InName) (content : List ℕ) → IsReadByHead plan k n
    → input_name plan opened k ≡ Some name → content_for old name ≡ Some content
    → IsPrefix (read_by new (input_file plan opened k)).bytes (first_lines n content)

-- The answer of a plan, from the contents before it to the contents after it and the exit status.
-- If the run finished, each output has its whole list in the sequential answer, and the status is
-- that of the sequential answer. If it stalled or met a fault, each output has a prefix of its
-- list.
abbrev pub AnswersFiles : Planned → OpenedFiles → FilesShown → FilesShown → Outcome → Type 0
AnswersFiles plan opened old new (outcome.Finished status) =
    LeavesFiles (λ bytes whole. bytes ≡ whole) plan opened old new
    × (status ≡ answer_status (graph_of plan) (contents_of plan opened old))
AnswersFiles plan opened old new (outcome.Stalled waits) =
    LeavesFiles IsPrefix plan opened old new
AnswersFiles plan opened old new (outcome.Faulted fault) =
    LeavesFiles IsPrefix plan opened old new
