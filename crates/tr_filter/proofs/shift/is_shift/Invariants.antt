use Rattle.std.proofs.Common.{◌≡◌, ℕ, ◌<◌, get_or}
use Rattle.tr_filter.specs.Shifts.{shifted}
use Rattle.tr_filter.proofs.shift.is_shift.Given as goal

abbrev pub invariant-loop-index : goal.invariant-loop-index
invariant-loop-index l = (x : ℕ) → x < l.index → get_or l.table x 0 ≡ shifted l.shift x
