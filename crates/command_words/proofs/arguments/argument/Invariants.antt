use Rattle.std.proofs.Common.{◌≡◌, ◌≤◌, None, drop, length}
use Rattle.command_words.specs.Arguments.{argument}
use Rattle.command_words.proofs.arguments.argument.Given as goal

abbrev pub invariant-loop-at : goal.invariant-loop-at
invariant-loop-at l = record {
  none : argument l.letter (drop l.at l.given)
      ≡ None;
  within : l.at ≤ length l.given;
}

abbrev pub decreases-loop-at : goal.decreases-loop-at
decreases-loop-at l = l.at
