use Rattle.std.proofs.Common.{sym}
use Rattle.byte_filters.proofs.lemmas.WcMoves.{wc_fed_as, wc_skipped, wc_fed_too_many, is_here}
use Rattle.byte_filters.proofs.lemmas.WcMoves.{is_gone, has_counted}
use Rattle.byte_filters.proofs.wc.WcMachine.feed.Goals as goal

pub returns-then-not-is_present-clause-ok : goal.returns-then-not-is_present-clause-ok
returns-then-not-is_present-clause-ok c =
    let m = c.args.self.now in
    wc_skipped m c.args._input c.args.piece c.args._out.now c.requires
    (is_gone m c.here.result c.here.ensures (sym c.if-not-is_present.ensures))

pub returns-in_err-self-clause-too_large : goal.returns-in_err-self-clause-too_large
returns-in_err-self-clause-too_large c =
    let m = c.args.self.now in
    let r = c.counted-last in
    λ fault ys none.
    wc_fed_too_many m c.args._input c.args.piece r.result.0 r.result.1 c.requires
    (is_here m c.here.result c.here.ensures (sym c.if-not-is_present.ensures))
    (has_counted m.spec m.in_word r.result.1 r.result.0 c.bytes.result.now c.args.piece
    c.bytes.ensures.value r.ensures.counts r.ensures.last) c.in_err-self.ensures.1 ys

pub returns-clause-ok : goal.returns-clause-ok
returns-clause-ok c =
    let m = c.args.self.now in
    let r = c.counted-last in
    wc_fed_as m c.args._input c.args.piece c.args._out.now r.result.0 c.in_ok-self.field-0
    r.result.1 c.in_ok-self.ensures c.requires
    (is_here m c.here.result c.here.ensures (sym c.if-not-is_present.ensures))
    (has_counted m.spec m.in_word r.result.1 r.result.0 c.bytes.result.now c.args.piece
    c.bytes.ensures.value r.ensures.counts r.ensures.last)
