use Rattle.std.proofs.Common.{length}
use Rattle.waiting_outputs.proofs.lemmas.Pieces.{PiecesTaken}
use Rattle.waiting_outputs.proofs.thread.write_pieces.Given as goal

abbrev pub invariant-loop-first : goal.invariant-loop-first
invariant-loop-first g l = PiecesTaken l.pieces l.left l.taken (g.F.Write.contents l.initial.file)
    (g.F.Write.contents l.file)

abbrev pub decreases-loop-first : goal.decreases-loop-first
decreases-loop-first g l = length l.left
