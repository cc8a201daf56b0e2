use Rattle.byte_filters.proofs.lemmas.TallyLaws.{ends_counted, ends_few}
use Rattle.byte_filters.proofs.starts.line_ends.Goals as goal

pub returns-clause-value : goal.returns-clause-value
returns-clause-value c =
    ends_counted c.args.bytes.now c.args.at c.newline_mask.result c.newline_mask.ensures

pub returns-clause-few : goal.returns-clause-few
returns-clause-few c = ends_few c.args.bytes.now c.args.at _
    (ends_counted c.args.bytes.now c.args.at c.newline_mask.result c.newline_mask.ensures)
