use Rattle.line_filters.proofs.lemmas.FieldLaws.{ended_fields}
use Rattle.line_filters.proofs.fields.fields_end.Goals as goal

pub returns : goal.returns
returns c = ended_fields c.nth.result c.args.walk.now c.args.count c.nth.new.self c.requires.some
    c.nth.ensures
