use Rattle.folders.proofs.lemmas.Placing.{left_looks, left_stopped}
use Rattle.folders.proofs.placing.rename_or_leave.Goals as goal

pub returns-in-Err-clause-stopped : goal.returns-in-Err-clause-stopped
returns-in-Err-clause-stopped g c known =
    left_stopped c.args.outputs.now (g.F.Folder.shows c.args.folder.now) (g.F.Folder.shows c.place_renamed.new.folder) (g.F.Folder.shows c.leave_all-left.new.folder)
    (g.F.Folder.moments known c.place_renamed.new.folder) (g.F.Folder.moments known c.leave_all-left.new.folder) (c.leave_all-left.ensures.others known) c.in-Err.fault (g.F.Folder.shows c.args.folder.now).seen (c.in-Err.ensures.stopped known)

pub returns-in-Err-clause-looks : goal.returns-in-Err-clause-looks
returns-in-Err-clause-looks g c known =
    left_looks c.args.outputs.now (g.F.Folder.shows c.args.folder.now) (g.F.Folder.shows c.place_renamed.new.folder) (g.F.Folder.shows c.leave_all-left.new.folder)
    (g.F.Folder.moments known c.place_renamed.new.folder) (g.F.Folder.moments known c.leave_all-left.new.folder) (c.leave_all-left.ensures.others known) (c.place_renamed.ensures.looks known)
