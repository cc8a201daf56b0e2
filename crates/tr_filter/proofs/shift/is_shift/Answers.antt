use Rattle.std.proofs.Common.{arith}
use Rattle.tr_filter.specs.Shifts.{shifted}
use Rattle.tr_words.proofs.TableLaws.{entries_are}
use Rattle.tr_filter.proofs.shift.is_shift.Goals as goal

pub returns : goal.returns
returns c = λ _. entries_are (shifted c.args.shift) c.args.table.now 0 (omega arith)
    (λ x h. c.loop-index.invariant x (omega arith))
