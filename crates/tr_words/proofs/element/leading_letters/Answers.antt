use Rattle.std.proofs.Common.{sym, arith}
use Rattle.tr_words.specs.Classes.{is_lower}
use Rattle.machine.proofs.PrefixLaws.{prefix_goes_on, prefix_stops, prefix_ends}
use Rattle.tr_words.proofs.element.leading_letters.Goals as goal

pub returns-then-not-is_from-clause-value : goal.returns-then-not-is_from-clause-value
returns-then-not-is_from-clause-value c =
    prefix_stops is_lower c.args.string.now c.loop-i.i (omega arith)
    (sym c.if-not-is_from.ensures) c.loop-i.invariant

pub loop-i-preserved : goal.loop-i-preserved
loop-i-preserved c = prefix_goes_on is_lower c.args.string.now c.loop-i.i (omega arith)
    (sym c.if-not-is_from.ensures) c.loop-i.invariant

pub returns-clause-value : goal.returns-clause-value
returns-clause-value c = prefix_ends is_lower c.args.string.now c.loop-i.i
    (omega arith) c.loop-i.invariant
