use Rattle.line_filters.proofs.lemmas.RangeLaws.{keeps_more, keeps_covered}
use Rattle.std.proofs.lemmas.List.{get_or_default}
use Rattle.std.proofs.Common.{get_or, None, sym}
use Rattle.commands.specs.declared.range.Range.{Range}
use Rattle.line_filters.proofs.ranges.Ranges.that_add.Goals as goal

pub loop-range-preserved : goal.loop-range-preserved
loop-range-preserved c =
    let l = c.loop-range in
    let d : Range = record { first = 0; last = None } in
    let range = get_or c.args.sorted.now l.range-index d in
    keeps_more c.args.sorted.now l.kept.items c.add.new.ranges.items l.top l.range-index range
    c.requires c.loop-range-test.true
    (get_or_default c.args.sorted.now l.range-index d range c.loop-range-test.true)
    c.in_ok-add.ensures l.invariant

pub loop-range-preserved-then-is_covered : goal.loop-range-preserved-then-is_covered
loop-range-preserved-then-is_covered c =
    let l = c.loop-range in
    let d : Range = record { first = 0; last = None } in
    let range = get_or c.args.sorted.now l.range-index d in
    keeps_covered c.args.sorted.now l.kept.items l.top l.range-index range c.loop-range-test.true
    (get_or_default c.args.sorted.now l.range-index d range c.loop-range-test.true)
    (sym c.if-is_covered.ensures) l.invariant
