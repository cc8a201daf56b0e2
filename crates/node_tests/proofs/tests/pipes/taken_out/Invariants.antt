use Rattle.std.proofs.Common.{length}
use Rattle.node_tests.proofs.tests.pipes.taken_out.Given as goal

abbrev pub invariant-loop-piece : goal.invariant-loop-piece
invariant-loop-piece l = Unit {0}

abbrev pub decreases-loop-piece : goal.decreases-loop-piece
decreases-loop-piece l = length l.pieces.pieces
