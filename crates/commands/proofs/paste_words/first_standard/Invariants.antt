use Rattle.std.proofs.Common.{◌≡◌, ℕ, ◌<◌, get_or, [], false}
use Rattle.command_words.specs.Streams.{is_standard_input}
use Rattle.commands.proofs.paste_words.first_standard.Given as goal

abbrev pub invariant-loop-i : goal.invariant-loop-i
invariant-loop-i l = (k : ℕ) → k < l.i → is_standard_input (get_or l.operands k []) ≡ false
