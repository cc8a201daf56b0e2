-- How many rounds a run of a plan on one thread can have.
--
-- In each round the run makes progress or lets a pipe grow. Each byte that a pipe carries is
-- written to it once and read from it once (POSIX.1-2017 XSH read, write; pipe(7)).
use Rattle.std.specs.Prelude.{ℕ, ◌+◌, ◌*◌, ◌<◌, ◌≤◌, length}
use Rattle.network_laws.specs.Bounds.{most_progress}
use Rattle.network_laws.specs.Sequential.{Contents, answer}
use Rattle.planner.specs.Planned.{Planned, graph_of}

-- The most rounds of a run of the plan, if its sources hold these contents. For each pipe it is two
-- for each byte of its list in the sequential answer, and sixteen. For each node it is one.
abbrev pub plan_rounds : Planned → Contents → ℕ
plan_rounds plan contents = most_progress (graph_of plan) contents + 12 * length plan.pipes

-- no pipe carries more bytes than this, if the sources of the plan hold these contents
abbrev pub CarriesAtMost : Planned → Contents → ℕ → Type 0
CarriesAtMost plan contents bytes = (p : ℕ) → p < length plan.pipes
    → length (answer (graph_of plan) contents p) ≤ bytes

-- One round more than a run of the plan can have in which no pipe carries more bytes than this.
abbrev pub rounds_for : Planned → ℕ → ℕ
rounds_for plan bytes = length plan.pipes * (2 * bytes + 16) + length plan.nodes + 1
