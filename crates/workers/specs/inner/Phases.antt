-- A phase of a run: what it leaves.
--
-- The commands of a pipeline run at the same time (POSIX.1-2017 XCU 2.9.2, Pipelines); what was
-- handed to a thread is known again once that thread was joined (XSH pthread_join).
use Rattle.std.specs.Prelude.{◌≡◌, ℕ, ◌≤◌, Bool, IsTrue, IsFalse, ◌⊎◌}
use Rattle.machine.specs.Law.{Shown}
use Rattle.collector.specs.Files.{FilesShown}
use Rattle.graphs.specs.Graph.{Graph}
use Rattle.network_laws.specs.Steps.{progress}
use Rattle.networks.specs.Networks.{Networked, HasOpened, network_state}
use Rattle.networks.specs.inner.KeptNetworks.{Keeps}
use Rattle.networks.specs.Turns.{Reaches, FaultsAreTrue, AnyFailed}
use Rattle.lending.specs.inner.Loans.{RunsFiles}

module _ {M : Type 0} where
  -- Rounds of sources and sinks, while stages may be out, and whether they were sound: then no read
  -- and no write failed in them, otherwise a node has failed.
  pub record RunsRounds (shows : M
      → Shown) (before after : FilesShown) (old new : Networked M) (sound : Bool) : Type 0 where
    pub runs : RunsFiles shows before after old new
    pub same : IsTrue sound → after.failures ≡ before.failures
    pub failed : IsFalse sound → AnyFailed new

  -- A phase.
  pub record RunsPhase (shows : M
      → Shown) (old : Networked M) (before : FilesShown) (new : Networked M) (after : FilesShown) :
      Type 0 where
    pub keeps : Keeps shows old before new after
    -- the file of each node is still open
    pub opened : HasOpened new after
    -- the network is as far as it was, at least
    pub on : (g : Graph)
        → progress g (network_state shows old before) ≤ progress g (network_state shows new after)
    -- no read and no write failed in it, or a node has failed
    pub sound : (after.failures ≡ before.failures) ⊎ AnyFailed new
    -- the counter of failures has gone on
    pub counts : (count : ℕ) → Reaches count before.failures → Reaches count after.failures
    -- each node that failed for its file did so for a read or a write that failed
    pub faults : (count : ℕ) → Reaches count before.failures
        → FaultsAreTrue count before.failures old.nodes
        → FaultsAreTrue count after.failures new.nodes
