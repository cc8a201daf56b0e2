use Rattle.pair_filters.specs.TableShows.{table_shows}
use Rattle.pair_filters.proofs.lemmas.NewLaws.{paste_new_as}
use Rattle.pair_filters.proofs.paste.Paste.new.Goals as goal

pub returns : goal.returns
returns c =
    paste_new_as c.args.spec.now.delimiters c.as_slice-delimiters.result.now
    c.args.spec.now.is_serial c.args.spec.now.columns c.as_slice-columns.result.now
    c.args.inputs.now (table_shows c.in_ok-table.table) c.as_slice-delimiters.ensures
    c.if-spec.false c.as_slice-columns.ensures c.if-is_some_missing.ensures
    c.in_ok-table.ensures
