use Rattle.std.proofs.Common.{◌≡◌, ℕ, ◌<◌, get_or, true}
use Rattle.command_words.specs.Bytes.{is_blank_byte}
use Rattle.pair_filters.proofs.keys.blanks.Given as goal

abbrev pub invariant-loop-i : goal.invariant-loop-i
invariant-loop-i l = (k : ℕ) → k < l.i → is_blank_byte (get_or l.bytes k 0) ≡ true
