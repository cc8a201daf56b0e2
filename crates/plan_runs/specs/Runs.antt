-- The result of a run of a plan, by what the files show before and after.
--
-- The commands of a pipeline run at the same time, and what they write does not depend on how their
-- steps fall (POSIX.1-2017 XCU 2.9.2, Pipelines).
use Rattle.std.specs.Prelude.{◌≡◌, ℕ, ◌<◌, ◌≤◌, ◌⊎◌, [], ◌++◌, length, Option, Some}
use mathlib.Core.List.{IsPrefix}
use Rattle.collector.specs.Files.{FilesShown, SameLogs, TouchesOnly}
use Rattle.collector.specs.Nodes.{read_by}
use Rattle.collector.specs.declared.fault.RunFault.TheVariants as fault
use Rattle.run_types.specs.declared.names.InName.{InName}
use Rattle.run_types.specs.declared.names.OutName.{OutName}
use Rattle.network_laws.specs.Outcome.{Run}
use Rattle.network_laws.specs.declared.outcome.Outcome.{Outcome}
use Rattle.network_laws.specs.declared.outcome.Outcome.TheVariants as outcomes
use Rattle.filters.specs.FilterShows.{filter_shows}
use Rattle.filters.specs.declared.filter.Filter.{Filter}
use Rattle.networks.specs.Networks.{Networked, IsRight}
use Rattle.networks.specs.Turns.{OutcomeIs, EndsIn, HasRisen, out_by, written_by}
use Rattle.networks.specs.Growth.{GrowOutOfStalls}
use Rattle.openings.specs.Answers.{OpenedFiles}
use Rattle.graphs.specs.Graph.{IsForest}
use Rattle.planner.specs.Planned.{Planned, graph_of}
use Rattle.run_types.specs.declared.settings.Settings.{Settings}
use Rattle.step_scheduler.specs.Setups.{setup_of, input_file, output_file, input_name, output_name}
use Rattle.step_scheduler.specs.Setups.{HasFilesOf}

-- What a run shows of a plan whose files were opened with these answers: of each node, what the
-- reads of its file returned, what the writes of its file took, and what is out.
pub record ShowsRun (plan : Planned) (opened : OpenedFiles) (before after : FilesShown) (run : Run)
    : Type 0 where
  pub read : (k : ℕ) → run.read k ≡ (read_by after (input_file plan opened k)).bytes
  pub at_end : (k : ℕ) → run.at_end k ≡ (read_by after (input_file plan opened k)).at_end
  pub written : (k : ℕ) → run.written k ≡ written_by after (output_file plan opened k)
  pub out : (k : ℕ) → run.out k ≡ out_by after (output_file plan opened k)
  pub failures_before : run.failures_before ≡ before.failures
  pub failures : run.failures ≡ after.failures
  pub faults_before : run.faults_before ≡ []

-- No file was touched but those that nodes of the plan read or write.
abbrev pub TouchesPlan : Planned → OpenedFiles → FilesShown → FilesShown → Type 0
TouchesPlan plan opened before after =
    TouchesOnly (λ file. (k : ℕ) × (input_file plan opened k ≡ Some file)) (λ file. (k : ℕ)
    × (output_file plan opened k ≡ Some file)) before after

-- What the sinks of a plan have handed over was waited for, of some of them or of all: it is written,
-- or its first bytes are, and the write of the others failed. So what is written, with what is out
-- after it, is a prefix of what it was. Nothing was read, and no file was touched but those of the
-- sinks.
pub record SettlesPlan (plan : Planned) (opened : OpenedFiles) (old new : FilesShown) : Type 0 where
  pub touches : TouchesPlan plan opened old new
  pub inputs : SameLogs old.inputs new.inputs
  pub begins : (k : ℕ) →
      IsPrefix (written_by new (output_file plan opened k) ++ out_by new (output_file plan opened k))
      (written_by old (output_file plan opened k) ++ out_by old (output_file plan opened k))
  pub still : (k : ℕ) → out_by old (output_file plan opened k) ≡ []
      → out_by new (output_file plan opened k) ≡ []
  pub rises : (before : ℕ) → HasRisen before old.failures → HasRisen before new.failures

-- of no output of the plan anything is out
abbrev pub IsSettled : Planned → OpenedFiles → FilesShown → Type 0
IsSettled plan opened files = (k : ℕ) → out_by files (output_file plan opened k) ≡ []

-- The network of the plan at the end of its run. It is right, and its own state is that of the
-- outcome: after Finished each node has ended or broken; after Stalled the state is stuck and shows
-- the waits; after Faulted a node has failed with that fault, or none has and memory was refused.
pub record EndsSo (plan : Planned) (opened : OpenedFiles) (settings : Settings)
    (after : FilesShown) (outcome : Outcome) : Type 0 where
  pub network : Networked Filter
  pub files : HasFilesOf plan opened network
  pub right : IsRight filter_shows
      (setup_of plan opened settings.max_capacity settings.bytes settings.block) network after
  pub ends : EndsIn filter_shows
      (setup_of plan opened settings.max_capacity settings.bytes settings.block) network after
      outcome

-- A plan, whose files were opened with these answers, was run over pipes of the capacity that the
-- settings have, which may have grown to at most their greatest unless the plan is a forest, and of
-- their limit in bytes, with pieces of at most their block; and this outcome is true of the run.
-- Each growth was out of a stall: `start` and `room` have the capacities at first and at the end.
-- The sources and the sinks go by the names of their files. If the network was made, the outcome is
-- true of its own state, as it was before what was out was waited for.
pub record RunsPlanTo
    (plan : Planned) (opened : OpenedFiles) (settings : Settings) (before after : FilesShown)
    (outcome : Outcome) : Type 0 where
  pub run : Run
  pub shows : ShowsRun plan opened before after run
  pub room : ℕ → ℕ
  pub rooms : (p : ℕ) → p < length plan.pipes
      → (settings.capacity ≤ room p) × (room p ≤ settings.max_capacity)
  pub forest : IsForest (graph_of plan) → (p : ℕ) → p < length plan.pipes
      → room p ≡ settings.capacity
  pub start : ℕ → ℕ
  pub starts : (p : ℕ) → p < length plan.pipes → start p ≡ settings.capacity
  pub growths : (count : ℕ) × GrowOutOfStalls
      (setup_of plan opened settings.max_capacity settings.bytes settings.block) count start room
  pub inputs : ℕ → Option InName
  pub sources : (k : ℕ) → inputs k ≡ input_name plan opened k
  pub outputs : ℕ → Option OutName
  pub sinks : (k : ℕ) → outputs k ≡ output_name plan k
  pub ends : (outcome ≡ outcomes.Faulted fault.NoMemory)
      ⊎ ((then : FilesShown) × SettlesPlan plan opened then after
      × EndsSo plan opened settings then outcome)
  pub outcome_is : OutcomeIs
      (setup_of plan opened settings.max_capacity settings.bytes settings.block) room run inputs
      outputs outcome
