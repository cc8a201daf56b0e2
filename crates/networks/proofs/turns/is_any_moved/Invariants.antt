use Rattle.std.proofs.Common.{take}
use Rattle.networks.specs.Turns.{NoneMoved}
use Rattle.networks.proofs.turns.is_any_moved.Given as goal

abbrev pub invariant-loop-answer : goal.invariant-loop-answer
invariant-loop-answer l = NoneMoved (take l.answer-index l.answers)
