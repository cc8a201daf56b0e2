use Rattle.std.proofs.Common.{length}
use Rattle.collector.proofs.Logs.{PiecesWritten}
use Rattle.collector.proofs.writing.write_pieces.Given as goal

abbrev pub invariant-loop-first : goal.invariant-loop-first
invariant-loop-first g l = PiecesWritten l.file l.pieces l.left (g.F.Files.shows l.initial.files)
    (g.F.Files.shows l.files)

abbrev pub decreases-loop-first : goal.decreases-loop-first
decreases-loop-first g l = length l.left
