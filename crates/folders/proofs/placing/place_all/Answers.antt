use Rattle.std.proofs.Common.{subst}
use Rattle.std.specs.Prelude.{IfErr, OnOk}
use Rattle.folders.specs.inner.Calls.{Failures}
use Rattle.folders.specs.inner.Causes.{HasPlaceCause}
use Rattle.folders.specs.inner.Folder.{View}
use Rattle.folders.specs.inner.Outputs.{AllLast, ArePlaced, IsStoppedBy}
use Rattle.folders.specs.declared.fault.PlaceFault.{PlaceFault}
use Rattle.folders.proofs.lemmas.Placing.{same_view, renamed_looks, renamed_loses}
use Rattle.folders.proofs.placing.place_all.Goals as goal

pub returns-clause-placed : goal.returns-clause-placed
returns-clause-placed g c known =
    let os = c.args.outputs.now in
    let s1 = g.F.Folder.shows c.store_all.new.folder in
    let s3 = g.F.Folder.shows c.place_stored.new.folder in
    let r = c.place_stored.result in
    subst (λ (v : View). OnOk r (ArePlaced os v s3.seen)) (same_view (c.in_default.ensures.keeps known).seen) (c.place_stored.ensures.placed known)

pub returns-clause-stored : goal.returns-clause-stored
returns-clause-stored g c known =
    let os = c.args.outputs.now in
    let s1 = g.F.Folder.shows c.store_all.new.folder in
    let s3 = g.F.Folder.shows c.place_stored.new.folder in
    let r = c.place_stored.result in
    subst (λ (v : View). OnOk r (AllLast os v s3)) (same_view (c.in_default.ensures.keeps known).seen) (c.place_stored.ensures.stored known (c.in_default.ensures.stored known))

pub returns-clause-stopped : goal.returns-clause-stopped
returns-clause-stopped g c known =
    let os = c.args.outputs.now in
    let s1 = g.F.Folder.shows c.store_all.new.folder in
    let s3 = g.F.Folder.shows c.place_stored.new.folder in
    let r = c.place_stored.result in
    subst (λ (v : View). IfErr r (λ (fault : PlaceFault). IsStoppedBy fault os v s3.seen)) (same_view (c.in_default.ensures.keeps known).seen) (c.place_stored.ensures.stopped known)

pub returns-clause-looks : goal.returns-clause-looks
returns-clause-looks g c known =
    let os = c.args.outputs.now in
    let s0 = g.F.Folder.shows c.args.folder.now in
    let s1 = g.F.Folder.shows c.store_all.new.folder in
    let s3 = g.F.Folder.shows c.place_stored.new.folder in
    renamed_looks os s0 s1 (c.store_all.ensures.others known) s3 (c.in_default.ensures.keeps known) (c.place_stored.ensures.looks known)

pub returns-clause-loses : goal.returns-clause-loses
returns-clause-loses g c known =
    let os = c.args.outputs.now in
    let s0 = g.F.Folder.shows c.args.folder.now in
    let s1 = g.F.Folder.shows c.store_all.new.folder in
    let s3 = g.F.Folder.shows c.place_stored.new.folder in
    renamed_loses os s0 s1 (c.store_all.ensures.others known) s3 (c.in_default.ensures.keeps known) (c.place_stored.ensures.loses known (c.in_default.ensures.stored known))

pub returns-clause-cause : goal.returns-clause-cause
returns-clause-cause g c known =
    let os = c.args.outputs.now in
    let s3 = g.F.Folder.shows c.place_stored.new.folder in
    subst (λ (f : Failures). HasPlaceCause os c.place_stored.result f s3.failures) (c.in_default.ensures.cause known) (c.place_stored.ensures.cause known)
