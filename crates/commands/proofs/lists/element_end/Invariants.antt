use Rattle.std.proofs.Common.{◌≡◌, ℕ, ◌<◌, get_or, false}
use Rattle.commands.specs.Lists.{is_separator}
use Rattle.commands.proofs.lists.element_end.Given as goal

abbrev pub invariant-loop-i : goal.invariant-loop-i
invariant-loop-i l = (k : ℕ) → k < l.i → is_separator (get_or l.list k 0) ≡ false
