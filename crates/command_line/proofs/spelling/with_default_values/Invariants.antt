use Rattle.std.proofs.Common.{◌≡◌, ◌++◌, ◌-◌, drop, length}
use Rattle.clap.specs.Walk.{texts}
use Rattle.command_line.specs.Spellings.{with_default_values_from, with_default_values}
use Rattle.command_line.proofs.spelling.with_default_values.Given as goal

abbrev pub invariant-loop-word : goal.invariant-loop-word
invariant-loop-word l = record {
  same : texts l.whole.items ++ with_default_values_from l.ended (texts (drop l.word-index l.words))
      ≡ with_default_values (texts l.words);
  rest : l.left ≡ length l.words - l.word-index;
}
