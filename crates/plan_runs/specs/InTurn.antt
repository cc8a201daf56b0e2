-- The result of a run of a plan on one thread.
--
-- The commands of a pipeline run at the same time (POSIX.1-2017 XCU 2.9.2, Pipelines). Over inputs
-- that end each of them comes to its end, if there is no fault and no stall.
use Rattle.std.specs.Prelude.{ℕ, ◌<◌, is_none, Result, IsOk, IsOkAnd}
use Rattle.collector.specs.Files.{FilesShown}
use Rattle.collector.specs.Nodes.{read_by}
use Rattle.graphs.specs.Graph.{node_at, IsForest}
use Rattle.network_laws.specs.Outcome.{AgreesAt}
use Rattle.network_laws.specs.Sequential.{Contents}
use Rattle.network_laws.specs.declared.outcome.Outcome.{Outcome}
use Rattle.network_laws.specs.declared.outcome.RoundsSpent.{RoundsSpent}
use Rattle.networks.specs.Turns.{IsNoStall}
use Rattle.openings.specs.Answers.{OpenedFiles, own_file}
use Rattle.planner.specs.Planned.{Planned, graph_of}
use Rattle.step_scheduler.specs.Setups.{input_file}
use Rattle.plan_runs.specs.Rounds.{plan_rounds}

-- The sources of the plan hold these contents. The bytes that were read from the file of a source
-- are a prefix of its content, and all of it if a read returned the end. A source whose opening was
-- refused holds nothing.
abbrev pub SourcesHold : Planned → OpenedFiles → FilesShown → Contents → Type 0
SourcesHold plan opened files contents = (k : ℕ)
    → AgreesAt (node_at (graph_of plan) k) (is_none (own_file opened k)) (contents k)
    (read_by files (input_file plan opened k)).bytes
    (read_by files (input_file plan opened k)).at_end

-- A run that was given more rounds than it can have came to its end.
abbrev pub RunEnds : Planned → OpenedFiles → FilesShown → ℕ → Result Outcome RoundsSpent → Type 0
RunEnds plan opened after rounds result = (contents : Contents)
    → SourcesHold plan opened after contents → plan_rounds plan contents < rounds → IsOk result

-- If the plan is a forest, such a run finished or met a fault.
abbrev pub RunFinishes : Planned → OpenedFiles → FilesShown → ℕ → Result Outcome RoundsSpent
    → Type 0
RunFinishes plan opened after rounds result = IsForest (graph_of plan) → (contents : Contents)
    → SourcesHold plan opened after contents → plan_rounds plan contents < rounds
    → IsOkAnd result IsNoStall
