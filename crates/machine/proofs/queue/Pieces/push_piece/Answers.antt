use Rattle.std.proofs.Common.{rules}
use Rattle.machine.proofs.Cuts.{adds_piece, adds_none}
use Rattle.machine.proofs.queue.Pieces.push_piece.Goals as goal

pub returns-then-len-self-clause-ok : goal.returns-then-len-self-clause-ok
returns-then-len-self-clause-ok c =
    search (adds_piece, c.append.ensures.ok, c.len.ensures.long, rules)

pub returns-then-len-self-clause-err : goal.returns-then-len-self-clause-err
returns-then-len-self-clause-err c =
    search (adds_none, c.append.ensures.err, c.self.invariant, rules)
