-- Rounds of every node, and schedules with every node in them, as laws.
use Rattle.std.specs.Prelude.{◌≡◌, ℕ, ◌<◌, ◌≤◌, false, List, length}
use Rattle.std.specs.List.{AllByRecursion}
use Rattle.run_types.specs.declared.step.Step.{Step}
use Rattle.graphs.specs.Graph.{IsNode, IsPipe}
use Rattle.network_laws.specs.Waits.{IsRunning, IsStuck}
use Rattle.network_laws.specs.Outcome.{AreWaits}
use Rattle.network_laws.specs.State.{Setup, State, IsLawful, IsFailed, node_state_of}
use Rattle.run_types.specs.Steps.{is_moved}
use Rattle.network_laws.specs.Steps.{done_below, progress}
use Rattle.networks.specs.Bounds.{HasEach}
use Rattle.networks.specs.Turns.{waits_from, AreSteps, AreScheduled}

-- After a round of every node in which nothing moved, no node came to its end and none has failed,
-- some node still running, nothing can step, and the waits that the steps answered are just the
-- waiting nodes of that state.
abbrev pub QuietRoundsAreStuck : Type 0
QuietRoundsAreStuck = (s : Setup) (old new : State) (failed more : ℕ) (answers : List Step) →
    AreSteps s 0 old new failed more answers → length answers ≡ length s.graph.nodes →
    AllByRecursion (λ st. is_moved st ≡ false) answers
    → done_below (length s.graph.nodes) new ≤ done_below (length s.graph.nodes) old →
    ((j : ℕ) → IsNode s.graph j → IsFailed (node_state_of (new.part j)) → ⊥) → IsLawful s new →
    ((p : ℕ) → IsPipe s.graph p → 0 < (new.writing p).capacity)
    → ((p : ℕ) → IsPipe s.graph p → s.block ≤ (new.writing p).limit)
    → (k : ℕ) × IsRunning s new k →
    IsStuck s new × AreWaits s new (waits_from s.graph 0 answers)

-- It is the same in any order. A list with every node in it was stepped, and the network came no
-- further by it. If no node has failed and one still runs, nothing can step.
abbrev pub QuietSchedulesAreStuck : Type 0
QuietSchedulesAreStuck = (s : Setup) (nodes : List ℕ) (old new : State) (failed more : ℕ)
    (answers : List Step) → AreScheduled s nodes old new failed more answers
    → AllByRecursion (λ k. IsNode s.graph k) nodes → HasEach (length s.graph.nodes) nodes
    → progress s.graph new ≤ progress s.graph old
    → ((j : ℕ) → IsNode s.graph j → IsFailed (node_state_of (new.part j)) → ⊥) → IsLawful s new →
    ((p : ℕ) → IsPipe s.graph p → 0 < (new.writing p).capacity)
    → ((p : ℕ) → IsPipe s.graph p → s.block ≤ (new.writing p).limit)
    → (k : ℕ) × IsRunning s new k → IsStuck s new

-- a round never takes progress back
abbrev pub RoundsGoOn : Type 0
RoundsGoOn = (s : Setup) (old new : State) (failed more : ℕ) (answers : List Step) →
    AreSteps s 0 old new failed more answers → progress s.graph old ≤ progress s.graph new
