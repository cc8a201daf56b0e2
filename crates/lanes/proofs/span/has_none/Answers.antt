use Rattle.std.proofs.lemmas.Bool.{eqb-true}
use Rattle.lanes.specs.Spans.{in_spans}
use Rattle.lanes.proofs.lemmas.SpanLaws.{none_marked}
use Rattle.lanes.proofs.span.has_none.Goals as goal

pub returns : goal.returns
returns c none = none_marked (in_spans c.args.spans.now) c.args.bytes.now c.args.at
    c.spans_marks.result c.requires c.spans_marks.ensures (eqb-true _ _ none)
