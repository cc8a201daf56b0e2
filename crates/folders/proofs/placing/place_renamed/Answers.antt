use Rattle.folders.proofs.lemmas.Placing.{are_placed}
use Rattle.folders.proofs.placing.place_renamed.Goals as goal

pub returns-in-Ok-clause-placed : goal.returns-in-Ok-clause-placed
returns-in-Ok-clause-placed g c known =
    are_placed c.args.outputs.now (g.F.Folder.shows c.args.folder.now).seen (g.F.Folder.shows c.rename_all.new.folder).seen c.requires.apart (c.in-Ok.ensures.files known) (c.in-Ok.ensures.placed known)
