use Rattle.std.proofs.Common.{◌≢◌}
use Rattle.folders.proofs.Alone.{alone_none, alone_more}
use Rattle.folders.proofs.writing.write_new.Goals as goal

pub returns-in-Err-clause-others : goal.returns-in-Err-clause-others
returns-in-Err-clause-others g c known =
    let s0 = g.F.Folder.shows c.args.folder.now in
    let counts = g.F.Folder.moments known c.args.folder.now in
    alone_more counts (alone_none (λ n. n ≢ c.args.name.now) s0 counts) (c.create.ensures.touches known) (c.create.ensures.looks known) (c.create.ensures.loses known) (λ n other. other)

pub returns-in-Err-append-clause-others : goal.returns-in-Err-append-clause-others
returns-in-Err-append-clause-others g c known =
    let s0 = g.F.Folder.shows c.args.folder.now in
    let counts = g.F.Folder.moments known c.args.folder.now in
    let made = alone_more counts (alone_none (λ n. n ≢ c.args.name.now) s0 counts) (c.create.ensures.touches known) (c.create.ensures.looks known) (c.create.ensures.loses known) (λ n other. other) in
    alone_more (g.F.Folder.moments known c.create.new.self) made (c.append.ensures.touches known) (c.append.ensures.looks known) (c.append.ensures.loses known) (λ n other. other)

pub returns-clause-others : goal.returns-clause-others
returns-clause-others g c known =
    let s0 = g.F.Folder.shows c.args.folder.now in
    let counts = g.F.Folder.moments known c.args.folder.now in
    let made = alone_more counts (alone_none (λ n. n ≢ c.args.name.now) s0 counts) (c.create.ensures.touches known) (c.create.ensures.looks known) (c.create.ensures.loses known) (λ n other. other) in
    alone_more (g.F.Folder.moments known c.create.new.self) made (c.append.ensures.touches known) (c.append.ensures.looks known) (c.append.ensures.loses known) (λ n other. other)
