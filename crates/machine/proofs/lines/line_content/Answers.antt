use Rattle.std.proofs.Common.{sym, true, false, get_or, ◌-◌, length}
use Rattle.std.proofs.lemmas.Bool.{eq-eqb, ne_eqb}
use Rattle.machine.proofs.PlaceLaws.{content_is, some_from}
use Rattle.machine.proofs.lines.line_content.Goals as goal

pub returns-then-line-last-eq10 : goal.returns-then-line-last-eq10
returns-then-line-last-eq10 c =
    let l = c.args.line.now in
    sym (content_is true l (some_from l (sym c.if-is_empty.ensures))
    (eq-eqb (get_or l (length l - 1) 0) 10 c.if-line-last-eq10.true))

pub returns-else-line-last-eq10 : goal.returns-else-line-last-eq10
returns-else-line-last-eq10 c =
    let l = c.args.line.now in
    sym (content_is false l (some_from l (sym c.if-is_empty.ensures))
    (ne_eqb (get_or l (length l - 1) 0) 10 c.if-line-last-eq10.false))
