use Rattle.std.proofs.Common.{◌≡◌, ◌≤◌, ◌+◌, ◌++◌, length}
use Rattle.rtrb.specs.Ring.{sent, known_free, known_items, SameProducer}
use Rattle.bounded_pipe.proofs.reading.hand_over.Given as goal

abbrev pub invariant-loop : goal.invariant-loop
invariant-loop l = record {
  same : SameProducer l.initial.to l.to;
  all : sent l.to ++ known_items l.from ≡ sent l.initial.to ++ known_items l.initial.from;
  left : length (known_items l.from) + l.counter ≡ l.end;
  room : length (known_items l.from) ≤ known_free l.to;
}
