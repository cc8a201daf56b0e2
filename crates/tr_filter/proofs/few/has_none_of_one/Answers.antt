use Rattle.std.proofs.Common.{cond, drop, get_or, take}
use Rattle.lanes.specs.Spans.{in_span}
use Rattle.tr_filter.proofs.lemmas.FewLaws.{found_zero, not_in}
use Rattle.tr_filter.proofs.few.has_none_of_one.Goals as goal

pub returns : goal.returns
returns c none k d h =
    let bytes = c.args.bytes.now in
    let span = c.args.span in
    not_in (in_span span (get_or (take 64 (drop c.args.at bytes)) k d))
    (found_zero (λ x. cond (in_span span x) 255 0) bytes c.inside.result c.args.at c.requires
    c.inside.ensures (c.are_zero.ensures none) k d h)
