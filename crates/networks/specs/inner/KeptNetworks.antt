-- What steps and rounds keep of a network, and the result of a run in rounds.
--
-- A pipeline goes on from step to step, and stays what it is (POSIX.1-2017 XCU 2.9.2, Pipelines).
use Rattle.std.specs.Prelude.{◌≡◌, ℕ, ◌+◌, ◌≤◌, Bool, IsTrue, List, length}
use Rattle.machine.specs.Law.{Shown}
use Rattle.collector.specs.Files.{FilesShown}
use Rattle.graphs.specs.Graph.{IsForest}
use Rattle.network_laws.specs.State.{Setup, events}
use Rattle.network_laws.specs.Outcome.{FaultByNode, EachOutputBegins, HasFinished}
use Rattle.network_laws.specs.declared.outcome.Outcome.{Outcome}
use Rattle.networks.specs.Networks.{Networked, IsRight, StaysRight, SameNetwork, GrownNetwork}
use Rattle.networks.specs.Networks.{TouchesNodes, network_state, rooms}
use Rattle.networks.specs.Turns.{OutcomeIs, EndsIn, IsSound, IsNoStall, IsRound, SpendsRounds}
use Rattle.networks.specs.Turns.{Reaches, NoneFailed, run_of, network_run, input_names}
use Rattle.networks.specs.Turns.{output_names}
use Rattle.networks.specs.Growth.{GrowOutOfStalls}

module _ {M : Type 0} where
  -- What follows of a network that is right for a setup.
  abbrev pub IfRight : (M → Shown) → Networked M → FilesShown → (Setup → Type 0) → Type 0
  IfRight shows n files P = (s : Setup)
      → IsRight shows s n files → P s

  -- ---- what stays

  -- What steps keep of a network.
  pub record Keeps (shows : M
      → Shown) (old : Networked M) (before : FilesShown)
      (new : Networked M) (after : FilesShown) : Type 0 where
    -- it is the same network, and its pipes have the capacities that they had
    pub same : SameNetwork old new
    -- if it was right, it still is
    pub right : StaysRight shows old new before after
    -- no file was touched but those of its nodes
    pub touches : TouchesNodes old.nodes before after

  -- What rounds keep of it.
  pub record KeepsGrown (shows : M
      → Shown) (old : Networked M) (before : FilesShown)
      (new : Networked M) (after : FilesShown) : Type 0 where
    -- it is the same network, whose pipes may have grown
    pub same : GrownNetwork old new
    -- each growth was out of a stall
    pub growths : IfRight shows old before
        (λ s. (count : ℕ) × GrowOutOfStalls s count (rooms old) (rooms new))
    -- if it is a forest, none has
    pub forest : IfRight shows old before (λ s. IsForest s.graph
        → SameNetwork old new)
    pub right : StaysRight shows old new before after
    pub touches : TouchesNodes old.nodes before after

  -- ---- steps in the order of a schedule

  -- This many of the steps of these nodes moved something.
  pub record MovesSteps (shows : M
      → Shown) (nodes : List ℕ) (old : Networked M) (before : FilesShown)
      (new : Networked M) (after : FilesShown) (moved : ℕ) : Type 0 where
    -- they are no more than all steps
    pub most : moved ≤ length nodes
    -- each of them was an event
    pub events_are : IfRight shows old before
        (λ s. moved + events s.graph (network_state shows old before)
        ≤ events s.graph (network_state shows new after))

  -- What the outputs hold after a schedule.
  pub record ShowsOutputs (shows : M
      → Shown) (old : Networked M) (before : FilesShown)
      (new : Networked M) (after : FilesShown) (all_ended : Bool) : Type 0 where
    -- each is a prefix of its list in the sequential answer
    pub begins : IfRight shows old before
        (λ s. EachOutputBegins s (network_run shows old before new after))
    -- if all nodes have ended or broken, it is that list
    pub whole : IfRight shows old before
        (λ s. IsTrue all_ended → HasFinished s (network_run shows old before new after) new.status)

  -- ---- rounds

  -- One round.
  pub record MakesRound (shows : M
      → Shown) (old : Networked M) (before : FilesShown)
      (new : Networked M) (after : FilesShown) : Type 0 where
    pub keeps : KeepsGrown shows old before new after
    -- each node stepped once, and then a pipe may have grown out of a stall
    pub turn : IfRight shows old before (λ s. IsRound shows s old before new after)
    -- the counter of failures has gone on
    pub reaches : (count : ℕ) → Reaches count before.failures → Reaches count after.failures

  -- This many rounds were made, and the run is not at its end.
  pub record SpendsAll (shows : M
      → Shown) (count : ℕ) (old : Networked M) (before : FilesShown)
      (new : Networked M) (after : FilesShown) : Type 0 where
    -- no node has failed, and neither has a read or a write
    pub unfailed : NoneFailed new
    pub sound : after.failures ≡ before.failures
    -- the network came further in each round
    pub further : IfRight shows old before
        (λ s. SpendsRounds shows s count old before new after)

  -- A run came to its end with this outcome.
  pub record EndsRounds (shows : M
      → Shown) (old : Networked M) (before : FilesShown)
      (new : Networked M) (after : FilesShown) (outcome : Outcome) : Type 0 where
    -- it is true of what the files show, even if the run began earlier, after this many failures
    -- and with these faults
    pub outcome_is : IfRight shows old before
        (λ s. (began : ℕ) (faults : List FaultByNode) → Reaches began before.failures →
        OutcomeIs s (rooms new) (run_of new after began faults) (input_names new)
        (output_names new) outcome)
    -- it is true of the network's own state
    pub ends : IfRight shows old before (λ s. EndsIn shows s new after outcome)
    -- if it is no fault, no read and no write has failed
    pub sound : IsSound outcome → after.failures ≡ before.failures

  -- A run came to its end with this outcome, in one call.
  pub record EndsRun (shows : M
      → Shown) (old : Networked M) (before : FilesShown)
      (new : Networked M) (after : FilesShown) (outcome : Outcome) : Type 0 where
    -- it is true of what the files show
    pub outcome_is : IfRight shows old before
        (λ s. OutcomeIs s (rooms new) (network_run shows old before new after) (input_names new)
        (output_names new) outcome)
    -- a forest never stalls
    pub flows : IfRight shows old before (λ s. IsForest s.graph → IsNoStall outcome)
    pub sound : IsSound outcome → after.failures ≡ before.failures
