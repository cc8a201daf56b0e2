use Rattle.std.proofs.Common.{subst, sym}
use Rattle.machine.specs.Law.{Feeds}
use Rattle.machine.specs.OneInput.{one_input, wants_first}
use Rattle.machine.proofs.OneInputLaws.{one_input_feeds}
use Rattle.pair_filters.specs.declared.runs.Rules.{Rules}
use Rattle.pair_filters.specs.UniqShows.{uniq_most, uniq_shows, uniq_still}
use Rattle.pair_filters.specs.UniqSteps.{lines_begun}
use Rattle.pair_filters.proofs.lemmas.StillLaws.{piece_most, piece_still, takes_of}
use Rattle.pair_filters.proofs.uniq.UniqMachine.feed.Goals as goal

pub returns-clause-ok : goal.returns-clause-ok
returns-clause-ok c =
    let m = c.args.self.now in
    let t = c.take_bytes.new in
    let begun = lines_begun m.begun in
    let begun' = lines_begun t.self in
    let first = wants_first m.input.closed c.args._input c.requires in
    let takes = takes_of m.begun.rules begun begun' m.partial.items t.partial.items
    c.bytes.result.now c.args.piece c.clear.new.self t.made c.bytes.ensures.value
    c.clear.ensures c.in_ok-take_bytes.ensures.ok in
    subst (λ (r : Rules). Feeds c.args._input c.args.piece (uniq_shows m)
    (one_input m.input.closed
    (uniq_still m.input.present m.input.closed r begun' t.partial.items)
    (uniq_most m.input.present m.input.closed r begun' t.partial.items)) c.args.out.now
    c.pour.new.out) (sym c.take_bytes.ensures.rules)
    (one_input_feeds m.input.closed
    (uniq_still m.input.present m.input.closed m.begun.rules begun m.partial.items)
    (uniq_still m.input.present m.input.closed m.begun.rules begun' t.partial.items)
    (uniq_most m.input.present m.input.closed m.begun.rules begun m.partial.items)
    (uniq_most m.input.present m.input.closed m.begun.rules begun' t.partial.items)
    c.args._input c.args.piece t.made c.args.out.now c.pour.new.out c.requires
    c.in_ok-pour.ensures.ok
    (λ ys. piece_still m.input.present m.input.closed m.begun.rules begun begun' m.partial.items
    t.partial.items c.args.piece t.made ys c.if-not-self.false (first.0) takes)
    (λ ys. piece_most m.input.present m.input.closed m.begun.rules begun begun' m.partial.items
    t.partial.items c.args.piece t.made ys c.if-not-self.false (first.0) takes))
