use Rattle.std.proofs.Common.{◌≡◌, length}
use Rattle.command_words.specs.Options.{kind_in}
use Rattle.command_words.proofs.options.option_kind.Given as goal

abbrev pub invariant-loop-rest : goal.invariant-loop-rest
invariant-loop-rest l = kind_in l.rest l.letter ≡ kind_in l.letters l.letter

abbrev pub decreases-loop-rest : goal.decreases-loop-rest
decreases-loop-rest l = length l.rest
