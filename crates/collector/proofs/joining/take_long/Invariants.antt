use Rattle.std.proofs.Common.{false}
use Rattle.std.specs.List.{concat}
use Rattle.bounded_pipe.specs.Ends.{Reading}
use Rattle.collector.specs.inner.Joins.{Took}
use Rattle.collector.proofs.joining.take_long.Given as goal

abbrev pub invariant-loop : goal.invariant-loop
invariant-loop l = (start : Reading) → Took start l.initial.end (concat l.initial.pieces) false
    → Took start l.end (concat l.pieces) false
