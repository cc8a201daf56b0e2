-- The waits of nodes of a plan (POSIX.1-2017 XSH write, read; pipe(7)).
use Rattle.std.specs.Prelude.{◌≡◌}
use Rattle.graphs.specs.Graph.{Graph, IsNode, IsPipe}
use Rattle.network_laws.specs.Circles.{own_end}
use Rattle.network_laws.specs.declared.outcome.Waiting.{Waiting}

-- a node of the graph can wait so: for a full pipe that it writes, or an empty one that it reads
abbrev pub IsOwnWait : Graph → Waiting → Type 0
IsOwnWait g w = IsNode g w.node × IsPipe g w.pipe × (own_end g w ≡ w.node)
