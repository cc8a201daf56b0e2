use Rattle.std.proofs.Common.{◌≡◌, ◌++◌, take, drop, map, get_or}
use Rattle.tr_filter.specs.Moves.{moves_table}
use Rattle.tr_filter.proofs.moves.move_over.Given as goal

abbrev pub invariant-loop-byte : goal.invariant-loop-byte
invariant-loop-byte l = l.bytes ≡ map (λ x. get_or (moves_table l.moves) x 0)
    (take l.byte-index l.fn.bytes) ++ drop l.byte-index l.fn.bytes
