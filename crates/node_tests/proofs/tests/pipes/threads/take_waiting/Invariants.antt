use Rattle.bounded_pipe.specs.Ends.{ReadsOn}
use Rattle.node_tests.proofs.tests.pipes.threads.take_waiting.Given as goal

abbrev pub invariant-loop : goal.invariant-loop
invariant-loop g l = record {
  goes_on : ReadsOn l.fn.reader l.reader;
  next : (goal.iterator-loop g).can_next l.iterator';
  finite : (goal.iterator-loop g).is_finite l.iterator';
}
