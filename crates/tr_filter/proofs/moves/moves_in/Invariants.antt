use Rattle.std.proofs.Common.{◌≤◌}
use Rattle.tr_filter.proofs.moves.moves_in.Given as goal

abbrev pub invariant-loop-index : goal.invariant-loop-index
invariant-loop-index l = l.count ≤ 2
