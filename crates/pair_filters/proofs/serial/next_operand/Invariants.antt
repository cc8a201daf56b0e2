use Rattle.std.proofs.Common.{ℕ, List, Option, ◌-◌, length}
use Rattle.pair_filters.specs.Operands.{PassesOperands}
use Rattle.pair_filters.proofs.serial.next_operand.Given as goal

abbrev pub invariant-loop-column : goal.invariant-loop-column
invariant-loop-column l = (delimiters : List (Option ℕ))
    → PassesOperands delimiters l.columns l.inputs l.from l.column l.fn.made l.made

abbrev pub decreases-loop-column : goal.decreases-loop-column
decreases-loop-column l = length l.columns - l.column
