use Rattle.std.proofs.Common.{arith}
use Rattle.pair_filters.proofs.lemmas.StepLaws.{leaves_column, leaves_row}
use Rattle.pair_filters.proofs.table.leave_cell.Goals as goal

pub returns-then-place-columns : goal.returns-then-place-columns
returns-then-place-columns c =
    leaves_column c.args.delimiters.now c.args.columns.now c.args.place.now c.args.made.now
    c.put_delimiter.new.made c.if-place-columns.true c.if-not-place.false
    c.in_ok-put_delimiter.ensures

pub returns : goal.returns
returns c = leaves_row c.args.delimiters.now c.args.columns.now c.args.place.now c.args.made.now
    c.put_byte.new.self c.requires (omega arith) c.if-not-place.false c.in_ok-put_byte.ensures
