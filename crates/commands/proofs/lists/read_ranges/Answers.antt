use Rattle.std.proofs.Common.{◌∙◌, sym, ap, Some}
use Rattle.commands.proofs.lemmas.ListLaws.{element_more, element_last, element_refused}
use Rattle.commands.proofs.lists.read_ranges.Goals as goal

pub returns-in_default : goal.returns-in_default
returns-in_default c =
    rw c.at.ensures
    (element_refused c.args.list.now c.loop-range.rest.now c.loop-range.ranges.items
    c.element_end-end.result c.element_end-end.ensures.end
    (sym c.in_default.ensures) c.loop-range.invariant)

pub returns-then-end-rest : goal.returns-then-end-rest
returns-then-end-rest c =
    element_last c.args.list.now c.loop-range.rest.now c.loop-range.ranges.items
    c.add.new.ranges.items c.element_end-end.result c.in-Some.range
    c.element_end-end.ensures.end c.if-end-rest.true
    (sym c.in-Some.ensures) c.in_ok-add.ensures c.loop-range.invariant
    ∙ ap Some (sym c.from_vec.ensures)

pub loop-range-preserved : goal.loop-range-preserved
loop-range-preserved c =
    element_more c.args.list.now c.loop-range.rest.now c.after-rest.result.now
    c.loop-range.ranges.items c.add.new.ranges.items c.element_end-end.result c.in-Some.range
    c.element_end-end.ensures.end c.if-end-rest.false
    (sym c.in-Some.ensures) c.in_ok-add.ensures c.after-rest.ensures c.loop-range.invariant
