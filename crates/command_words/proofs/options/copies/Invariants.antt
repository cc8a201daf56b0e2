use Rattle.std.proofs.Common.{◌≡◌, take}
use Rattle.command_words.proofs.options.copies.Given as goal

abbrev pub invariant-loop-word : goal.invariant-loop-word
invariant-loop-word l = l.out.items ≡ take l.word-index l.words
