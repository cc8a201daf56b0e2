use Rattle.std.proofs.Common.{length, ◌-◌}
use Rattle.machine.proofs.Cuts.{CutsUpTo}
use Rattle.machine.proofs.queue.append_cut.Given as goal

abbrev pub invariant-loop-at : goal.invariant-loop-at
invariant-loop-at l = CutsUpTo l.block l.fn.pieces.items l.pieces.items l.bytes l.at

abbrev pub decreases-loop-at : goal.decreases-loop-at
decreases-loop-at l = length l.bytes - l.at
