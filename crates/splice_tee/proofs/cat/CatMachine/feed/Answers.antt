use Rattle.std.proofs.Common.{sym}
use Rattle.std.proofs.lemmas.List.{append-nil}
use Rattle.machine.specs.Pieces.{contents}
use Rattle.machine.specs.declared.protocol.Presence.TheVariants.{Present, Missing}
use Rattle.machine.proofs.Cuts.{contents_added}
use Rattle.machine.proofs.InOrderLaws.{here_is}
use Rattle.splice_tee.proofs.lemmas.CatLaws.{cat_feeds}
use Rattle.splice_tee.proofs.cat.CatMachine.feed.Goals as goal

pub returns-in-Missing-clause-ok : goal.returns-in-Missing-clause-ok
returns-in-Missing-clause-ok c =
    let m = c.args.self.now in
    cat_feeds m c.args._input Missing c.args.piece c.args.out.now c.args.out.now c.requires
    (here_is m.inputs.presence m.inputs.at c.here.result Missing c.here.ensures c.in-Missing.is)
    (sym (append-nil (contents c.args.out.now)))

pub returns-in_ok-push_piece-in-Present-clause-ok :
    goal.returns-in_ok-push_piece-in-Present-clause-ok
returns-in_ok-push_piece-in-Present-clause-ok c =
    let m = c.args.self.now in
    cat_feeds m c.args._input Present c.args.piece c.args.out.now c.push_piece.new.self c.requires
    (here_is m.inputs.presence m.inputs.at c.here.result Present c.here.ensures c.in-Present.is)
    (contents_added c.args.out.now c.push_piece.new.self c.args.piece
    c.in_ok-push_piece-in-Present.ensures.ok)
