use Rattle.std.proofs.Common.{length}
use Rattle.machine.proofs.lemmas.RunLaws.{HasRun}
use Rattle.machine.proofs.run.run_whole.Given as goal

abbrev pub invariant-loop-piece : goal.invariant-loop-piece
invariant-loop-piece g l = HasRun (g.M.Machine.shows l.fn.machine)
    (g.M.Machine.shows l.machine) l.fn.pieces l.pieces l.out

abbrev pub decreases-loop-piece : goal.decreases-loop-piece
decreases-loop-piece g l = length l.pieces.pieces
