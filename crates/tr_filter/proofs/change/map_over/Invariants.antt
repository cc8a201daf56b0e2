use Rattle.std.proofs.Common.{◌≡◌, ◌++◌, take, drop, map, get_or}
use Rattle.tr_filter.proofs.change.map_over.Given as goal

abbrev pub invariant-loop-byte : goal.invariant-loop-byte
invariant-loop-byte l = l.bytes ≡ map (λ x. get_or l.table x 0) (take l.byte-index l.fn.bytes)
    ++ drop l.byte-index l.fn.bytes
