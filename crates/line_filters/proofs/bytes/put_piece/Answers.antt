use Rattle.machine.proofs.Cuts.{contents_added}
use Rattle.line_filters.proofs.bytes.put_piece.Goals as goal

pub returns-clause-ok : goal.returns-clause-ok
returns-clause-ok c = contents_added c.args.out.now c.push_piece.new.self c.args.piece
    c.in_ok-push_piece.ensures.ok
