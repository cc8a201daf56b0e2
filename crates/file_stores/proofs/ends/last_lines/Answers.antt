use Rattle.std.proofs.Common.{sym}
use Rattle.machine.proofs.PlaceLaws.{some_from}
use Rattle.file_stores.proofs.lemmas.Ends.{lines_found, lines_before}
use Rattle.file_stores.proofs.ends.last_lines.Goals as goal

pub returns-in-Found-clause-value : goal.returns-in-Found-clause-value
returns-in-Found-clause-value c =
    let b = lines_found c.args.count c.saturating_sub.result c.args.bytes.now
    (some_from c.args.bytes.now (sym c.if-is_empty.ensures)) c.saturating_sub.ensures
    c.in-Found.place c.in-Found.ensures in
    b.value

pub returns-in-Found-clause-left : goal.returns-in-Found-clause-left
returns-in-Found-clause-left c =
    let b = lines_found c.args.count c.saturating_sub.result c.args.bytes.now
    (some_from c.args.bytes.now (sym c.if-is_empty.ensures)) c.saturating_sub.ensures
    c.in-Found.place c.in-Found.ensures in
    b.left

pub returns-in-Before-clause-value : goal.returns-in-Before-clause-value
returns-in-Before-clause-value c =
    let b = lines_before c.args.count c.saturating_sub.result c.args.bytes.now
    (some_from c.args.bytes.now (sym c.if-is_empty.ensures)) c.saturating_sub.ensures
    c.in-Before.field-0 c.in-Before.ensures in
    b.value
