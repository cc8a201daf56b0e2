use Rattle.std.proofs.Common.{ap}
use Rattle.folders.specs.inner.Folder.{View}
use Rattle.folders.proofs.lemmas.Placing.{are_placed, last_shown, last_looks, last_loses, all_last}
use Rattle.folders.proofs.placing.place_stored.Goals as goal

pub returns-in-Err-store_names-clause-stopped : goal.returns-in-Err-store_names-clause-stopped
returns-in-Err-store_names-clause-stopped g c known =
    let os = c.args.outputs.now in
    let s1 = g.F.Folder.shows c.args.folder.now in
    let s2 = g.F.Folder.shows c.rename_all.new.folder in
    let s3 = g.F.Folder.shows c.store_names.new.self in
    λ n none. ap (λ (v : View). v n) (last_shown os s1 s2 s3 (c.in_default.ensures.placed known) (c.store_names.ensures.keeps known))

pub returns-in-Err-store_names-clause-looks : goal.returns-in-Err-store_names-clause-looks
returns-in-Err-store_names-clause-looks g c known =
    let os = c.args.outputs.now in
    let s1 = g.F.Folder.shows c.args.folder.now in
    let s2 = g.F.Folder.shows c.rename_all.new.folder in
    let s3 = g.F.Folder.shows c.store_names.new.self in
    last_looks os s1 s2 s3 (c.in_default.ensures.placed known) (c.store_names.ensures.keeps known) (c.rename_all.ensures.looks known) (c.store_names.ensures.looks known)

pub returns-in-Err-store_names-clause-loses : goal.returns-in-Err-store_names-clause-loses
returns-in-Err-store_names-clause-loses g c known stored =
    let os = c.args.outputs.now in
    let s1 = g.F.Folder.shows c.args.folder.now in
    let s2 = g.F.Folder.shows c.rename_all.new.folder in
    let s3 = g.F.Folder.shows c.store_names.new.self in
    last_loses os s1 s2 s3 (c.in_default.ensures.placed known) (c.store_names.ensures.keeps known) (c.rename_all.ensures.loses known stored) (c.store_names.ensures.loses known)

pub returns-clause-placed : goal.returns-clause-placed
returns-clause-placed g c known =
    let os = c.args.outputs.now in
    let s1 = g.F.Folder.shows c.args.folder.now in
    let s2 = g.F.Folder.shows c.rename_all.new.folder in
    let s3 = g.F.Folder.shows c.store_names.new.self in
    are_placed os s1.seen s3.seen c.requires.apart (c.in_default.ensures.files known) (last_shown os s1 s2 s3 (c.in_default.ensures.placed known) (c.store_names.ensures.keeps known))

pub returns-clause-looks : goal.returns-clause-looks
returns-clause-looks g c known =
    let os = c.args.outputs.now in
    let s1 = g.F.Folder.shows c.args.folder.now in
    let s2 = g.F.Folder.shows c.rename_all.new.folder in
    let s3 = g.F.Folder.shows c.store_names.new.self in
    last_looks os s1 s2 s3 (c.in_default.ensures.placed known) (c.store_names.ensures.keeps known) (c.rename_all.ensures.looks known) (c.store_names.ensures.looks known)

pub returns-clause-stored : goal.returns-clause-stored
returns-clause-stored g c known stored =
    let os = c.args.outputs.now in
    let s1 = g.F.Folder.shows c.args.folder.now in
    let s2 = g.F.Folder.shows c.rename_all.new.folder in
    let s3 = g.F.Folder.shows c.store_names.new.self in
    all_last os s1 s2 s3 (c.in_default.ensures.placed known) (c.store_names.ensures.keeps known) c.requires.apart (c.in_default.ensures.files known) (c.in_default.ensures.kept known stored) (c.in_default-store_names.ensures.stored known)

pub returns-clause-loses : goal.returns-clause-loses
returns-clause-loses g c known stored =
    let os = c.args.outputs.now in
    let s1 = g.F.Folder.shows c.args.folder.now in
    let s2 = g.F.Folder.shows c.rename_all.new.folder in
    let s3 = g.F.Folder.shows c.store_names.new.self in
    last_loses os s1 s2 s3 (c.in_default.ensures.placed known) (c.store_names.ensures.keeps known) (c.rename_all.ensures.loses known stored) (c.store_names.ensures.loses known)
