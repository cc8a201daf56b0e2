-- The result of a run of a network on workers, by what the files show before and after.
--
-- The commands of a pipeline run at the same time, and what they write does not depend on how their
-- steps fall (POSIX.1-2017 XCU 2.9.2, Pipelines).
use Rattle.std.specs.Prelude.{ℕ, []}
use Rattle.machine.specs.Law.{Shown}
use Rattle.collector.specs.Files.{FilesShown}
use Rattle.graphs.specs.Graph.{IsForest}
use Rattle.network_laws.specs.State.{Setup}
use Rattle.network_laws.specs.declared.outcome.Outcome.{Outcome}
use Rattle.networks.specs.Networks.{Networked, SameNetwork, GrownNetwork, IsRight, rooms}
use Rattle.networks.specs.Turns.{OutcomeIs, EndsIn, run_of, input_names, output_names}
use Rattle.networks.specs.Growth.{GrowOutOfStalls}

-- A network was run to its end: the same network, whose pipes may have grown unless it is a forest,
-- is right after it. Each growth was out of a stall. The outcome is true of what its files show,
-- and of the network's own state. `before` and `after` are what the files showed when the run began
-- and when it returned.
pub record RunsTo {M : Type 0} (shows : M
    → Shown) (s : Setup) (old : Networked M) (before after : FilesShown) (outcome : Outcome) : Type
    0 where
  pub new : Networked M
  pub same : GrownNetwork old new
  pub growths : (count : ℕ) × GrowOutOfStalls s count (rooms old) (rooms new)
  pub forest : IsForest s.graph → SameNetwork old new
  pub right : IsRight shows s new after
  pub ends : EndsIn shows s new after outcome
  pub outcome_is : OutcomeIs s (rooms new) (run_of new after before.failures []) (input_names new)
      (output_names new) outcome

-- The network was run like this, whatever plan it was the right network of.
abbrev pub RunsTruly : {M : Type 0} → (M → Shown) → Networked M → FilesShown → FilesShown → Outcome
    → Type 0
RunsTruly shows old before after outcome = (s : Setup) → IsRight shows s old before
    → RunsTo shows s old before after outcome
