-- Tables of who waits for whom: for each node the one at the other end of the pipe that it waits
-- for (POSIX.1-2017 XSH write, read).
use Rattle.std.specs.Prelude.{◌≡◌, ℕ, ◌↔◌, List, Option, Some}
use Rattle.graphs.specs.inner.Circles.{next_of}
use Rattle.graphs.specs.Graph.{Graph}
use Rattle.network_laws.specs.Circles.{WaitsOn}
use Rattle.network_laws.specs.declared.outcome.Waiting.{Waiting}

-- the table has, for each node that waits, the node that it waits for, and for no other
abbrev pub Follows : Graph → List Waiting → List (Option ℕ) → Type 0
Follows g waits next = (k j : ℕ) → (next_of next k ≡ Some j) ↔ WaitsOn g waits k j
