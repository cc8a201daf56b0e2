-- The greatest progress that a network can make.
--
-- What is written to a pipe is read from it once, in the order in which it was written, and a read
-- gives the end of the file once its writer has closed it (POSIX.1-2017 XSH read, write, close;
-- pipe(7)).
use Rattle.std.specs.Prelude.{ℕ, zero, suc, ◌+◌, ◌*◌, ◌≤◌, length}
use Rattle.graphs.specs.Graph.{Graph, IsPlan}
use Rattle.network_laws.specs.Sequential.{Contents, answer}
use Rattle.network_laws.specs.State.{Setup, State, IsLawful}
use Rattle.network_laws.specs.Outcome.{Run, HasReads, Agree}
use Rattle.network_laws.specs.Steps.{progress}

-- The most events of a pipe whose list has this many bytes. Each byte is put in a piece of its own,
-- and then Close is put. Each of these is taken. The reader hangs up, and the writer notes it.
abbrev pub most_events : ℕ → ℕ
most_events bytes = 2 * (bytes + 1) + 2

-- the most events of the pipes below the number n, by the lengths of their lists in the sequential
-- answer
abbrev pub most_events_below : ℕ → Graph → Contents → ℕ
most_events_below zero g contents = 0
most_events_below (suc n) g contents = most_events_below n g contents
    + most_events (length (answer g contents n))

-- the greatest progress of a network: each pipe has its most events, and each node has ended or
-- broken
abbrev pub most_progress : Graph → Contents → ℕ
most_progress g contents = most_events_below (length g.pipes) g contents + length g.nodes

-- Whatever the order of the steps was, no network has made more progress than that.
abbrev pub ProgressIsBounded : Type 0
ProgressIsBounded = (s : Setup) (st : State) (run : Run) (contents : Contents) → IsPlan s.graph
    → IsLawful s st → HasReads st run → Agree s run contents
    → progress s.graph st ≤ most_progress s.graph contents
