use Rattle.std.proofs.Common.{◌≡◌, ℕ, ◌<◌, get_or, true}
use Rattle.commands.specs.Keys.{is_no_blank}
use Rattle.pair_filters.proofs.keys.word.Given as goal

abbrev pub invariant-loop-i : goal.invariant-loop-i
invariant-loop-i l = (k : ℕ) → k < l.i → is_no_blank (get_or l.bytes k 0) ≡ true
