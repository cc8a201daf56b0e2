use Rattle.bounded_pipe.specs.Ends.{ReadsOn}
use Rattle.node_tests.proofs.tests.pipes.threads.read_all.Given as goal

abbrev pub invariant-loop-byte : goal.invariant-loop-byte
invariant-loop-byte g l = ReadsOn l.fn.reader l.reader
