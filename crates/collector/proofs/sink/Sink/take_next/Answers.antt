use Rattle.std.proofs.Common.{◌≡◌, ℕ, false, ap, subst, sym}
use Rattle.machine.specs.declared.piece.Item.{Item}
use Rattle.bounded_pipe.specs.Ends.{Reading}
use Rattle.collector.specs.Files.{batch_bytes, log_of}
use Rattle.collector.specs.Nodes.{SinkShown}
use Rattle.collector.specs.inner.Joins.{Took, PassesOn, item_bytes, is_last}
use Rattle.collector.proofs.lemmas.Joins.{took_one}
use Rattle.collector.proofs.lemmas.SinkLaws.{passed_next, finished_next}
use Rattle.collector.proofs.sink.Sink.take_next.Goals as goal

pub returns-in-Some-Bytes-clause-told : goal.returns-in-Some-Bytes-clause-told
returns-in-Some-Bytes-clause-told g c =
    let old = g.F.Files.shows c.args.files.now in
    let new = g.F.Files.shows c.pass_on.new.files in
    let x = c.args.self.now in
    let z = c.pass_on.new.self in
    let bytes = batch_bytes c.gather-batch.result in
    let start = c.self.inside.end in
    let one = took_one c.in-Some-Bytes.field-0 start c.take.new.self c.in-Some-Bytes.ensures.some
    c.in-Some-Bytes.ensures.goes_on in
    let first = subst (λ (i : Item). Took start c.take.new.self (item_bytes i) (is_last i))
    c.in-Some-Bytes.field-0-is one in
    let took = c.gather-batch.ensures.took start first in
    let now = subst (λ (r : Reading). Took start r bytes false)
    (sym (ap (λ (s : SinkShown). s.end) c.pass_on.ensures.state)) took in
    let own = subst (λ (r : Reading). Took r z.end bytes false)
    (ap (λ (s : SinkShown). s.end) c.self.view_is) now in
    let file = ap (λ (s : SinkShown). s.file) c.gather-batch.ensures.same in
    let told = subst (λ (f : ℕ). PassesOn bytes c.pass_on.result (log_of old f) (log_of new f)) file
    c.pass_on.ensures.told in
    let here = subst (λ (s : SinkShown). PassesOn bytes c.pass_on.result (log_of old s.file)
    (log_of new s.file)) c.self.view_is told in
    passed_next x z bytes c.pass_on.result (log_of old x.file) (log_of new x.file) own here

pub returns-in-Some-Close-clause-told : goal.returns-in-Some-Close-clause-told
returns-in-Some-Close-clause-told g c =
    let old = g.F.Files.shows c.args.files.now in
    let new = g.F.Files.shows c.finish.new.files in
    let x = c.args.self.now in
    let z = c.finish.new.self in
    let start = c.self.inside.end in
    let one = took_one c.in-Some-Close.field-0 start c.take.new.self c.in-Some-Close.ensures.some
    c.in-Some-Close.ensures.goes_on in
    let took = subst (λ (i : Item). Took start c.take.new.self (item_bytes i) (is_last i))
    c.in-Some-Close.field-0-is one in
    let now = subst (λ (r : Reading). Took start r (item_bytes c.in-Some-Close.field-0)
    (is_last c.in-Some-Close.field-0))
    (sym (ap (λ (s : SinkShown). s.end) c.finish.ensures.state)) one in
    let last = subst (λ (i : Item). Took start z.end (item_bytes i) (is_last i))
    c.in-Some-Close.field-0-is now in
    finished_next x z c.finish.result (log_of old x.file) (log_of new x.file) c.finish.ensures.says
    (subst (λ (r : Reading). Took r z.end _ _) (ap (λ (s : SinkShown). s.end) c.self.view_is) last)
    (subst (λ (s : SinkShown). log_of new s.file ≡ log_of old s.file) c.self.view_is
    c.finish.ensures.told)
    c.requires.settled
