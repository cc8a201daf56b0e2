-- The sequential answer: what a script's stages make when they run one after another, each on whole
-- inputs.
--
-- An operand that cannot be opened is missing: it counts for nothing, and the exit status is then 1
-- (POSIX.1-2017 XCU 1.4, CONSEQUENCES OF ERRORS). The exit status of a pipeline is that of its last
-- command, and `!` makes 1 of 0 and 0 of any other (XCU 2.9.2).
use Rattle.std.specs.Prelude.{ℕ, zero, suc, ◌==◌, ◌&&◌, Bool, true, false, not, List, [], map}
use Rattle.std.specs.Prelude.{length, Option, Some, None, is_none, if◌then◌else◌}
use Rattle.std.specs.Option.{unwrap_or}
use Rattle.machine.specs.Whole.{status_of}
use Rattle.graphs.specs.Graph.{Graph, GraphNode, Source, Stage, node_at, writer}

-- What the source with each number holds, or none if it is missing. Only sources are asked.
abbrev pub Contents : Type 0
Contents = ℕ → Option (List ℕ)

-- whether this is a source that reads a file
abbrev pub is_source : Option GraphNode → Bool
is_source (Some (Source empty)) = not empty
is_source _ = false

-- whether the node k is a source that is missing, if `missing` says so of each source
abbrev pub is_missing : Graph → (ℕ → Bool) → ℕ → Bool
is_missing g missing k = is_source (node_at g k) && missing k

-- the sources that these contents leave out
abbrev pub missing_in : Contents → ℕ → Bool
missing_in contents k = is_none (contents k)

-- the inputs of a stage, if the pipes hold these lists: none if the writer of the pipe is a missing
-- source
abbrev pub inputs_at : Graph → (ℕ → Bool) → (ℕ → List ℕ) → List ℕ → List (Option (List ℕ))
inputs_at g missing held inputs =
    map (λ p. if is_missing g missing (writer g p) then None else Some (held p)) inputs

-- what a node puts on each of its pipes, if its inputs hold these lists
abbrev pub output_of : Graph → Contents → (ℕ → List ℕ) → ℕ → Option GraphNode → List ℕ
output_of g contents held k (Some (Source empty)) =
    if empty then [] else unwrap_or (contents k) []
output_of g contents held k (Some (Stage filter inputs branches)) =
    (filter (inputs_at g (missing_in contents) held inputs)).out
output_of g contents held k _ = []

-- what each pipe holds once the first n nodes have run, one after another in planned order
abbrev pub held_after : Graph → Contents → ℕ → ℕ → List ℕ
held_after g contents zero p = []
held_after g contents (suc n) p =
    if writer g p == n
    then output_of g contents (held_after g contents n) n (node_at g n)
    else held_after g contents n p

-- each pipe's list in the sequential answer: what it holds once all nodes have run
unfoldable pub answer : Graph → Contents → ℕ → List ℕ
answer g contents p = held_after g contents (length g.nodes) p

-- the exit status of a node, if its inputs hold these lists
abbrev pub status_at : Graph → Contents → (ℕ → List ℕ) → Option GraphNode → ℕ
status_at g contents held (Some (Stage filter inputs branches)) =
    status_of (inputs_at g (missing_in contents) held inputs)
status_at g contents held _ = 0

-- a status under `!`, or without it
abbrev pub negated : Bool → ℕ → ℕ
negated false status = status
negated true zero = 1
negated true (suc status) = 0

-- the exit status of the sequential answer
abbrev pub answer_status : Graph → Contents → ℕ
answer_status g contents =
    negated g.result.1 (status_at g contents (answer g contents) (node_at g g.result.0))
