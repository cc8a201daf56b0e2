use Rattle.folders.proofs.Alone.{alone_further}
use Rattle.held_outputs.proofs.lemmas.Touches.{touched}
use Rattle.held_outputs.proofs.new_file.end_file.Goals as goal

pub returns-in-Err-clause-others : goal.returns-in-Err-clause-others
returns-in-Err-clause-others g c known =
    touched c.args.name.now (g.D.Folder.shows c.args.disk.now) (g.D.Folder.shows c.end_writes.new.self) (g.D.Folder.moments known c.args.disk.now)
    (c.end_writes.ensures.touches known) (c.end_writes.ensures.looks known) (c.end_writes.ensures.loses known)

pub returns-in-Err-store-clause-others : goal.returns-in-Err-store-clause-others
returns-in-Err-store-clause-others g c known =
    alone_further (g.D.Folder.moments known c.end_writes.new.self)
    (touched c.args.name.now (g.D.Folder.shows c.args.disk.now) (g.D.Folder.shows c.end_writes.new.self) (g.D.Folder.moments known c.args.disk.now)
    (c.end_writes.ensures.touches known) (c.end_writes.ensures.looks known) (c.end_writes.ensures.loses known))
    (touched c.args.name.now (g.D.Folder.shows c.end_writes.new.self) (g.D.Folder.shows c.store.new.self) (g.D.Folder.moments known c.end_writes.new.self)
    (c.store.ensures.touches known) (c.store.ensures.looks known) (c.store.ensures.loses known))

pub returns-in_default-store-clause-others : goal.returns-in_default-store-clause-others
returns-in_default-store-clause-others g c known =
    alone_further (g.D.Folder.moments known c.end_writes.new.self)
    (touched c.args.name.now (g.D.Folder.shows c.args.disk.now) (g.D.Folder.shows c.end_writes.new.self) (g.D.Folder.moments known c.args.disk.now)
    (c.end_writes.ensures.touches known) (c.end_writes.ensures.looks known) (c.end_writes.ensures.loses known))
    (touched c.args.name.now (g.D.Folder.shows c.end_writes.new.self) (g.D.Folder.shows c.store.new.self) (g.D.Folder.moments known c.end_writes.new.self)
    (c.store.ensures.touches known) (c.store.ensures.looks known) (c.store.ensures.loses known))

pub returns-else-stores-clause-others : goal.returns-else-stores-clause-others
returns-else-stores-clause-others g c known =
    touched c.args.name.now (g.D.Folder.shows c.args.disk.now) (g.D.Folder.shows c.end_writes.new.self) (g.D.Folder.moments known c.args.disk.now)
    (c.end_writes.ensures.touches known) (c.end_writes.ensures.looks known) (c.end_writes.ensures.loses known)
