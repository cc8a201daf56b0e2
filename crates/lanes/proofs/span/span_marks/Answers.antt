use Rattle.std.proofs.Common.{◌∙◌, ◌+◌, ◌%◌, leb, ap, ℕ, arith}
use Rattle.std.specs.Int.{bit_at}
use Rattle.lanes.proofs.lemmas.MarkLaws.{bit_by}
use Rattle.lanes.proofs.span.span_marks.Goals as goal

pub returns : goal.returns
returns c k small =
    ap (λ (m : ℕ). bit_at m k) c.span_mask.ensures
    ∙ bit_by (λ x. leb ((x + c.args.span.by) % 256) c.args.span.width) c.args.bytes.now
    c.args.at k small (omega (arith, c.requires, small))
