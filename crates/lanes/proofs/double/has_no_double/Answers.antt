use Rattle.lanes.specs.Spans.{in_spans}
use Rattle.lanes.proofs.lemmas.DoubleLaws.{none_doubled}
use Rattle.lanes.proofs.double.has_no_double.Goals as goal

pub returns : goal.returns
returns c apart =
    none_doubled (in_spans c.args.spans.now) c.args.bytes.now c.args.at c.spans_marks.result
    c.same_marks.result c.requires c.spans_marks.ensures c.same_marks.ensures
    (c.are_disjoint.ensures apart)
