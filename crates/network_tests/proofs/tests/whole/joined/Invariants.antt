use Rattle.std.proofs.Common.{length}
use Rattle.network_tests.proofs.tests.whole.joined.Given as goal

abbrev pub decreases-loop-piece : goal.decreases-loop-piece
decreases-loop-piece l = length l.pieces.pieces
