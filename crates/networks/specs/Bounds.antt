-- How many rounds a run has at most, and how many parts of a schedule.
--
-- A pipe of a capacity between 1 and 4,096 items that doubles each time that it grows does so at
-- most twelve times (pipe(7), F_SETPIPE_SZ). The commands of a pipeline run at once, in no order
-- that is set (POSIX.1-2017 XCU 2.9.2, Pipelines).
use Rattle.std.specs.Prelude.{◌≡◌, ℕ, zero, suc, ◌+◌, ◌*◌, ◌<◌, ◌⊎◌, List, ◌++◌, length, Contains}
use Rattle.std.specs.Prelude.{Result, IsOk}
use Rattle.machine.specs.Law.{Shown}
use Rattle.collector.specs.Files.{FilesShown}
use Rattle.network_laws.specs.Bounds.{most_progress}
use Rattle.network_laws.specs.Outcome.{Agree}
use Rattle.network_laws.specs.Sequential.{Contents}
use Rattle.network_laws.specs.State.{Setup}
use Rattle.network_laws.specs.Waits.{IsStuck}
use Rattle.network_laws.specs.declared.outcome.Outcome.{Outcome}
use Rattle.network_laws.specs.declared.outcome.RoundsSpent.{RoundsSpent}
use Rattle.networks.specs.Networks.{Networked, IsRight, SameNetwork, network_state}
use Rattle.networks.specs.Turns.{SpendsRounds, RunsSchedule, AllDone, AnyFailed, network_run}

-- The most rounds that make progress or let a pipe grow, if the sources hold these contents: the
-- greatest progress, and twelve growths of each pipe.
abbrev pub most_rounds : Setup → Contents → ℕ
most_rounds s contents = most_progress s.graph contents + 12 * length s.graph.pipes

-- A right network in which nothing has changed has spent no round.
abbrev pub NothingSpendsNothing : {M : Type 0} → (M → Shown) → Type 0
NothingSpendsNothing {M} shows = (s : Setup) (count : ℕ) (n : Networked M) (files : FilesShown)
    → IsRight shows s n files → SpendsRounds shows s count n files n files → count ≡ 0

-- each number below the count is in the list
abbrev pub HasEach : ℕ → List ℕ → Type 0
HasEach count nodes = (k : ℕ) → k < count → Contains nodes k

-- The list begins with this many parts, each of which has every number below the count. They may
-- be in any order, and any of them may come again.
abbrev pub IsFair : ℕ → ℕ → List ℕ → Type 0
IsFair count zero nodes = Unit {0}
IsFair count (suc parts) nodes = (part : List ℕ) × (rest : List ℕ) × (nodes ≡ part ++ rest)
    × HasEach count part × IsFair count parts rest

module _ {M : Type 0} where
  -- A schedule of these nodes came to a stall: after some of its steps the network's own state was
  -- stuck. It was the same network, and its pipes had the capacities that they have.
  pub record WasStuck (shows : M
      → Shown) (s : Setup) (nodes : List ℕ) (old : Networked M) (before : FilesShown)
      (new : Networked M) (after : FilesShown) : Type 0 where
    pub first : List ℕ
    pub rest : List ℕ
    pub nodes_are : nodes ≡ first ++ rest
    pub mid : Networked M
    pub between : FilesShown
    pub same : SameNetwork old mid
    pub ran : (moved : ℕ) × RunsSchedule shows first old before mid between moved
    pub stuck : IsStuck s (network_state shows mid between)
    pub ran_on : (moved : ℕ) × RunsSchedule shows rest mid between new after moved

  -- For any contents that agree with what was read: more fair parts than the greatest progress
  -- bring the run to its end. Each node has ended or broken, or a node has failed, or the network
  -- was stuck.
  abbrev pub EndsFairly : (M → Shown) → Setup → List ℕ → Networked M → FilesShown → Networked M
      → FilesShown → Type 0
  EndsFairly shows s nodes old before new after = (contents : Contents) (parts : ℕ)
      → Agree s (network_run shows old before new after) contents
      → most_progress s.graph contents < parts → IsFair (length old.nodes) parts nodes
      → AllDone new ⊎ (AnyFailed new ⊎ WasStuck shows s nodes old before new after)

  -- For any contents that agree with what was read: a call that was given more rounds than they
  -- allow brought the run to its end.
  abbrev pub EndsInTime : (M → Shown) → Setup → ℕ → Networked M → FilesShown → Networked M
      → FilesShown → Result Outcome RoundsSpent → Type 0
  EndsInTime shows s rounds old before new after result = (contents : Contents)
      → Agree s (network_run shows old before new after) contents
      → most_rounds s contents < rounds → IsOk result
