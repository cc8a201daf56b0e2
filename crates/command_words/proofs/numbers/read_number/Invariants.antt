use Rattle.std.proofs.Common.{◌≡◌, ◌≤◌, drop}
use Rattle.command_words.specs.Numbers.{greatest}
use Rattle.command_words.specs.inner.NumberSteps.{with_digits}
use Rattle.command_words.proofs.numbers.read_number.Given as goal

abbrev pub invariant-loop-byte : goal.invariant-loop-byte
invariant-loop-byte l = record {
  read : with_digits 0 l.word
      ≡ with_digits l.value (drop l.byte-index l.word);
  small : l.value ≤ greatest;
}
