use Rattle.std.proofs.Common.{◌∙◌}
use Rattle.lanes.specs.Spans.{in_spans}
use Rattle.lanes.proofs.lemmas.GatherLaws.{one_of_each}
use Rattle.lanes.proofs.gather.single_chunk.Goals as goal

pub returns-clause-left : goal.returns-clause-left
returns-clause-left c = (
  c.gather.ensures.bound,
  c.gather.ensures.left
      ∙ one_of_each (in_spans c.args.spans.now) c.args.bytes.now c.args.at c.spans_marks.result
      c.same_marks.result c.both-doubled.result c.after-all.result c.args.gone c.requires.bytes
      c.spans_marks.ensures c.same_marks.ensures c.both-doubled.ensures.set
      c.both-doubled.ensures.clear c.after-all.ensures.first c.after-all.ensures.later,
)
