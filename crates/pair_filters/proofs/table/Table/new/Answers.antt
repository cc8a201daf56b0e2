use Rattle.pair_filters.proofs.lemmas.NewLaws.{table_new_as}
use Rattle.pair_filters.proofs.table.Table.new.Goals as goal

pub returns : goal.returns
returns c =
    let found = c.first_column-column in
    table_new_as c.args.delimiters.now c.in_ok-from_slice.field-0.items c.args.columns.now
    c.in_ok-from_slice-2.field-0.items c.args.inputs c.in_ok-new_intakes.field-0.items
    found.result c.in_ok-from_slice.ensures.items c.in_ok-from_slice-2.ensures.items
    c.in_ok-new_intakes.ensures.0 c.in_ok-new_intakes.ensures.1 found.ensures.within
    found.ensures.before found.ensures.here
