use Rattle.std.proofs.Common.{◌∙◌, ◌≡◌, sym, false, get_or}
use Rattle.std.specs.Prelude.{◌&&◌}
use Rattle.lanes.specs.Spans.{in_spans}
use Rattle.lanes.proofs.lemmas.SpanLaws.{none_paired, none_first, not_before}
use Rattle.lanes.proofs.span.has_no_pair.Goals as goal
use Rattle.lanes.proofs.span.has_no_pair.Goals.{else-before-via-then-before+else-is_in_spans}
use Rattle.lanes.proofs.span.has_no_pair.Goals.{else-before-via-else-before}

pub returns : goal.returns
returns c apart =
    let p = in_spans c.args.spans.now in
    let x = get_or c.args.bytes.now c.args.at 0 in
    let first : (c.args.before && p x) ≡ false =
    elim c.else-before.branch [
      | else-before-via-then-before+else-is_in_spans w ↦
          none_first c.args.before (p x) (sym w.is_in_spans.ensures ∙ w.if-is_in_spans.false)
      | else-before-via-else-before w ↦ not_before c.args.before (p x) w.if-before.false
    ] in
    none_paired p c.args.bytes.now c.args.at c.spans_marks.result c.args.before c.requires
    c.spans_marks.ensures (c.are_apart.ensures apart) first
