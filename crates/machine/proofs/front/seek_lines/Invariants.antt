use Rattle.machine.proofs.FrontLaws.{Fronted}
use Rattle.machine.proofs.front.seek_lines.Given as goal

abbrev pub invariant-loop-left : goal.invariant-loop-left
invariant-loop-left l = Fronted l.bytes l.fn.n l.at l.left

abbrev pub decreases-loop-left : goal.decreases-loop-left
decreases-loop-left l = l.left
