use Rattle.std.proofs.Common.{◌≡◌, None, List, slice_set, refl, sym, subst}
use Rattle.file_stores.specs.inner.Memory.{Stored, content_of, held_with, Holds}
use Rattle.file_stores.specs.inner.Places.{IsPlaceOf}
use Rattle.file_stores.proofs.lemmas.Places.{put_changed, put_new}
use Rattle.collector.proofs.Results.{on_ok}
use Rattle.file_stores.proofs.contents.Contents.put.Goals as goal

pub returns-in-Some-clause-ok : goal.returns-in-Some-clause-ok
returns-in-Some-clause-ok c =
    let files = c.self.inside.files.items in
    let place = subst (λ (fs : List Stored). IsPlaceOf c.args.name.now fs c.in-Some.place)
    c.as_slice.ensures.value c.in-Some.ensures.some in
    on_ok c.change.result
    (λ e. subst (λ (fs : List Stored). Holds c.args.name.now
    (held_with (content_of fs c.args.name.now) c.args.keep c.args.bytes.now) fs
    (slice_set files c.in-Some.place c.change.new.file)) c.self.view_is
    (put_changed c.args.name.now c.args.bytes.now c.args.keep files c.in-Some.place
    c.index_mut.result.now c.change.new.file place c.index_mut.ensures.value e))
    c.change.ensures.ok

pub returns-in_ok-push-in-None-clause-ok : goal.returns-in_ok-push-in-None-clause-ok
returns-in_ok-push-in-None-clause-ok c =
    let none = subst (λ (fs : List Stored). content_of fs c.args.name.now
    ≡ None) c.as_slice.ensures.value (c.in-None.ensures.none refl) in
    subst (λ (fs : List Stored). Holds c.args.name.now
    (held_with (content_of fs c.args.name.now) c.args.keep c.args.bytes.now) fs
    c.push.new.self.items) c.self.view_is
    (subst (λ (fs : List Stored). Holds c.args.name.now
    (held_with (content_of c.self.inside.files.items c.args.name.now) c.args.keep
    c.args.bytes.now) c.self.inside.files.items fs) (sym c.in_ok-push-in-None.ensures.items)
    (put_new c.args.name.now c.args.bytes.now c.args.keep c.self.inside.files.items
    c.in_ok-file-in-None.file none c.in_ok-file-in-None.ensures))
