use Rattle.std.proofs.Common.{◌++◌, ◌≡◌, ◌∙◌, ap, sym, List, ℕ, arith, length, take, drop}
use Rattle.std.proofs.lemmas.List.{take_at}
use Rattle.machine.specs.Pieces.{contents}
use Rattle.machine.proofs.Cuts.{contents_added}
use Rattle.machine.proofs.OneInputLaws.{one_input_feeds}
use Rattle.tr_filter.specs.Shifts.{made_by}
use Rattle.tr_filter.specs.TrShows.{tr_rest}
use Rattle.tr_filter.proofs.lemmas.TrFeed.{tr_splits}
use Rattle.tr_filter.proofs.tr.TrMachine.feed.Goals as goal

pub returns-clause-ok : goal.returns-clause-ok
returns-clause-ok c =
    let m = c.args.self.now in
    let made = λ (x : List ℕ). made_by m.spec m.last x in
    let old = c.in_ok-bytes.bytes.items in
    let new = c.make-kept.new.bytes in
    let kept = c.make-kept.result.0 in
    let last = c.make-kept.result.1 in
    let given : c.as_mut_slice.result.now ≡ c.args.piece = c.as_mut_slice.ensures.value
    ∙ c.in_ok-bytes.ensures.value in
    let same : length new ≡ length old = c.make-kept.auto.bytes
    ∙ ap length c.as_mut_slice.ensures.value in
    let whole : c.truncate.new.self.items ≡ take kept new = c.truncate.ensures.items
    ∙ ap (take kept) (take_at new (drop (length new) old) (length old) same) in
    one_input_feeds
    m.input.closed
    (tr_rest m)
    (tr_rest (record m { last = last }))
    (λ xs. 0)
    (λ xs. 0)
    c.args._input
    c.args.piece
    (made c.args.piece)
    c.args.out.now
    c.push_mut.new.self
    c.requires
    (contents_added c.args.out.now c.push_mut.new.self c.truncate.new.self.items
    c.in_ok-push_mut.ensures.ok
    ∙ ap (λ (x : List ℕ). contents c.args.out.now ++ x) (whole
    ∙ (c.make-kept.ensures.made ∙ ap made given)))
    (λ ys. tr_splits m c.args.piece ys last c.if-not-self.false
    (ap (λ (x : List ℕ). made (x ++ ys)) (sym given)
    ∙ (c.make-kept.ensures.goes_on ys
    ∙ ap (λ (x : List ℕ). made x ++ made_by m.spec last ys) given)))
    (λ ys. omega arith)
