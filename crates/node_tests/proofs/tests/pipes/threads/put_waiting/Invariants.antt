use Rattle.bounded_pipe.specs.Ends.{WritesOn}
use Rattle.node_tests.proofs.tests.pipes.threads.put_waiting.Given as goal

abbrev pub invariant-loop : goal.invariant-loop
invariant-loop g l = record {
  goes_on : WritesOn l.fn.writer l.writer;
  next : (goal.iterator-loop g).can_next l.iterator';
  finite : (goal.iterator-loop g).is_finite l.iterator';
}
