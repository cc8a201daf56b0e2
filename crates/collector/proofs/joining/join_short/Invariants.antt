use Rattle.std.proofs.Common.{false}
use Rattle.bounded_pipe.specs.Ends.{Reading}
use Rattle.collector.specs.inner.Joins.{Took}
use Rattle.collector.proofs.joining.join_short.Given as goal

abbrev pub invariant-loop : goal.invariant-loop
invariant-loop l = (start : Reading) → Took start l.initial.end l.initial.bytes.items false
    → Took start l.end l.bytes.items false
