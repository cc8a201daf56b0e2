use Rattle.std.proofs.Common.{◌∙◌, ◌++◌, [], sym, arith}
use Rattle.std.proofs.lemmas.List.{append-nil}
use Rattle.machine.specs.Pieces.{contents}
use Rattle.machine.proofs.OneInputLaws.{one_input_feeds}
use Rattle.line_filters.specs.KeptParts.{kept_bytes}
use Rattle.line_filters.specs.TailShows.{tail_still}
use Rattle.line_filters.proofs.lemmas.TailLaws.{end_feeds, last_as}
use Rattle.line_filters.proofs.tail.TailMachine.feed.Goals as goal

pub returns-in_ok-push-in-End-clause-ok : goal.returns-in_ok-push-in-End-clause-ok
returns-in_ok-push-in-End-clause-ok c =
    let m = c.args.self.now in
    let k = c.leave.new.self in
    let before = kept_bytes m.kept.full.items m.kept.last in
    let after = kept_bytes k.full.items k.last in
    one_input_feeds m.input.closed
    (tail_still m.input.present m.input.closed m.kept.counted m.origin m.left before)
    (tail_still m.input.present m.input.closed k.counted m.origin m.left after) (λ x. 0)
    (λ x. 0) c.args._input c.args.piece [] c.args.out.now c.args.out.now c.requires
    (sym (append-nil (contents c.args.out.now)))
    (λ ys. end_feeds m.input.present m.input.closed m.kept.counted k.counted m.origin m.left before
    after c.args.piece ys c.in-End.is (c.leave.ensures.counted ∙ c.push.ensures.counted)
    (last_as m.kept.counted c.push.new.self.counted m.left after
    (kept_bytes c.push.new.self.full.items c.push.new.self.last)
    (before ++ c.args.piece) c.push.ensures.counted c.in_ok-push-in-End.ensures.pieces
    c.leave.ensures.last))
    (λ ys. omega arith)
