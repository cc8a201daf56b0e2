use Rattle.folders.proofs.Lists.{read_at}
use Rattle.held_outputs.proofs.lemmas.Touches.{alone_of, stored_of}
use Rattle.held_outputs.proofs.holding.end_at.Goals as goal

pub returns-clause-others : goal.returns-clause-others
returns-clause-others g c known =
    alone_of c.args.outputs.now c.args.number c.index-outputs-number.result
    (read_at c.args.outputs.now c.args.number c.index-outputs-number.result c.if-number-outputs.false c.index-outputs-number.is)
    (c.end_file.ensures.others known)

pub returns-clause-stored : goal.returns-clause-stored
returns-clause-stored g c known stores =
    stored_of c.args.outputs.now c.args.number c.index-outputs-number.result (g.D.Folder.shows c.end_file.new.disk)
    (read_at c.args.outputs.now c.args.number c.index-outputs-number.result c.if-number-outputs.false c.index-outputs-number.is)
    c.end_file.result (c.end_file.ensures.stored known stores)
