use Rattle.bounded_pipe.specs.Ends.{WritesOn}
use Rattle.node_tests.proofs.tests.pipes.threads.write_all.Given as goal

abbrev pub invariant-loop-byte : goal.invariant-loop-byte
invariant-loop-byte g l = WritesOn l.fn.writer l.writer
