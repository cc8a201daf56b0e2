-- A run on one thread, and what its sources hold once its outputs were put in place or left.
use Rattle.std.proofs.Common.{◌≡◌, ℕ, Option, Some, None, unwrap_or, refl, ap, subst}
use Rattle.std.specs.Prelude.{is_none}
use Rattle.std.specs.declared.result.Result.TheVariants.{Ok}
use Rattle.collector.specs.Files.{FilesShown, ReadLog, SameLogs, nothing_read}
use Rattle.collector.specs.Nodes.{read_by}
use Rattle.graphs.specs.Graph.{node_at}
use Rattle.planner.specs.Planned.{Planned, graph_of}
use Rattle.openings.specs.Answers.{OpenedFiles, own_file}
use Rattle.network_laws.specs.Outcome.{AgreesAt}
use Rattle.network_laws.specs.Sequential.{Contents}
use Rattle.network_laws.specs.declared.outcome.Outcome.{Outcome}
use Rattle.networks.specs.Turns.{IsNoStall}
use Rattle.step_scheduler.specs.Setups.{input_file}
use Rattle.plan_runs.specs.InTurn.{RunFinishes, SourcesHold}

read_by_same : (a b : FilesShown) → SameLogs a.inputs b.inputs → (file : Option ℕ)
    → read_by b file ≡ read_by a file
read_by_same a b same None = refl
read_by_same a b same (Some file) = ap (λ (l : Option ReadLog). unwrap_or l nothing_read)
    (same file)

module _ (plan : Planned) (opened : OpenedFiles) (then new : FilesShown)
    (same : SameLogs then.inputs new.inputs) where
  -- the reads are those of the run
  pub sources_held : (contents : Contents) → SourcesHold plan opened new contents
      → SourcesHold plan opened then contents
  sources_held contents hold k =
      subst (λ (l : ReadLog). AgreesAt (node_at (graph_of plan) k) (is_none (own_file opened k))
      (contents k) l.bytes l.at_end)
      (read_by_same then new same (input_file plan opened k)) (hold k)

  -- the run finished in time, and so did its end
  pub finishes_so : (rounds : ℕ) (came_to outcome : Outcome)
      → (IsNoStall came_to → IsNoStall outcome) → RunFinishes plan opened then rounds (Ok came_to)
      → RunFinishes plan opened new rounds (Ok outcome)
  finishes_so rounds came_to outcome flows finishes forest contents hold enough =
      flows (finishes forest contents (sources_held contents hold) enough)
