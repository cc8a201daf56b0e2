use Rattle.std.proofs.Common.{◌==◌, ◌-◌, length}
use Rattle.machine.specs.Lines.{newline}
use Rattle.machine.proofs.lemmas.CountLaws.{HasCountedUpTo}
use Rattle.machine.proofs.lines.newlines.Given as goal

abbrev pub invariant-loop-at : goal.invariant-loop-at
invariant-loop-at l = HasCountedUpTo (λ x. x == newline) l.bytes l.at l.count

abbrev pub decreases-loop-at : goal.decreases-loop-at
decreases-loop-at l = length l.bytes - l.at
