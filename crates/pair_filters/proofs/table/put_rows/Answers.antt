use Rattle.pair_filters.proofs.lemmas.RowLaws.{fewer_left}
use Rattle.pair_filters.proofs.table.put_rows.Goals as goal

pub loop-place-smaller : goal.loop-place-smaller
loop-place-smaller c =
    let l = c.loop-place in
    fewer_left c.args.delimiters.now c.args.columns.now l.intakes c.put_cell.new.intakes l.place
    c.put_cell.new.place c.leave_cell.new.place l.made c.put_cell.new.made c.leave_cell.new.made
    _ _ c.in_ok-put_cell.ensures c.in_ok-leave_cell.ensures
