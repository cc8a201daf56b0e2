use Rattle.std.proofs.Common.{◌≡◌, ℕ, ◌<◌, false, get_or}
use Rattle.command_words.specs.Bytes.{is_from}
use Rattle.tr_filter.proofs.shift.moved_range.Given as goal

abbrev pub invariant-loop-index : goal.invariant-loop-index
invariant-loop-index l = (x : ℕ) → x < l.index → is_from l.low l.high x ≡ false
    → get_or l.table x 0 ≡ x
