use Rattle.std.proofs.Common.{arith, refl}
use Rattle.machine.proofs.Cuts.{cuts_more, cuts_front, added_as}
use Rattle.machine.proofs.queue.append_cut.Goals as goal

pub returns-in_err-part-clause-err : goal.returns-in_err-part-clause-err
returns-in_err-part-clause-err c =
    cuts_front c.from_residual.result c.args.block c.args.pieces.now.items c.loop-at.pieces.items
    c.loop-at.pieces.items c.args.bytes.now c.loop-at.at c.loop-at.invariant refl

pub returns-in_err-piece-clause-err : goal.returns-in_err-piece-clause-err
returns-in_err-piece-clause-err c =
    cuts_front c.from_residual-in_err-piece.result c.args.block c.args.pieces.now.items
    c.loop-at.pieces.items c.loop-at.pieces.items c.args.bytes.now c.loop-at.at
    c.loop-at.invariant refl

pub returns-in_err-append-clause-err : goal.returns-in_err-append-clause-err
returns-in_err-append-clause-err c =
    cuts_front c.from_residual-in_err-append.result c.args.block c.args.pieces.now.items
    c.loop-at.pieces.items c.append.new.pieces.items c.args.bytes.now c.loop-at.at
    c.loop-at.invariant c.in_err-append.ensures.err

pub loop-at-preserved : goal.loop-at-preserved
loop-at-preserved c =
    cuts_more
    c.args.block
    c.args.pieces.now.items
    c.loop-at.pieces.items
    c.append.new.pieces.items
    c.args.bytes.now
    c.in_ok-part.part.items
    c.loop-at.at
    c.min.result
    c.loop-at.invariant
    (omega (arith, c.min.ensures))
    (omega (arith, c.min.ensures))
    (omega (arith, c.min.ensures))
    (λ more. omega (arith, c.min.ensures))
    c.in_ok-part.ensures.items
    (added_as c.in_ok-piece.piece c.in_ok-part.part.items c.loop-at.pieces.items
    c.append.new.pieces.items c.in_ok-piece.ensures c.in_ok-append.ensures.ok)
