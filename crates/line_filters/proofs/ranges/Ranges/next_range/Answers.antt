use Rattle.std.proofs.Common.{sym, arith}
use Rattle.std.proofs.lemmas.Bool.{not-false}
use Rattle.commands.specs.Selections.{is_up_to}
use Rattle.line_filters.proofs.lemmas.RangeLaws.{range_found}
use Rattle.line_filters.proofs.ranges.Ranges.next_range.Goals as goal

pub returns-then-not-ends_before-clause-range : goal.returns-then-not-ends_before-clause-range
returns-then-not-ends_before-clause-range c =
    range_found c.args.self.now.ranges.items c.loop-passed.passed c.args.n c.max-first.result
    c.index-range.result.now c.args.self.now.rising
    (omega (arith, c.len.ensures, c.args.self.now.ranges.ok)) c.index-range.ensures
    c.max-first.ensures (not-false (is_up_to c.index-range.result.now.last c.max-first.result)
    (sym c.if-not-ends_before.ensures)) c.loop-passed.invariant
