use Rattle.std.proofs.Common.{◌≡◌, ℕ, ◌<◌, get_or}
use Rattle.tr_filter.specs.Moves.{moved}
use Rattle.tr_filter.proofs.moves.are_moves.Given as goal

abbrev pub invariant-loop-index : goal.invariant-loop-index
invariant-loop-index l = (x : ℕ) → x < l.index → get_or l.table x 0 ≡ moved l.moves x
