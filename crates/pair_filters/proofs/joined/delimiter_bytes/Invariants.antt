use Rattle.std.proofs.Common.{◌≡◌, Some, map, take}
use Rattle.pair_filters.proofs.joined.delimiter_bytes.Given as goal

abbrev pub invariant-loop-k : goal.invariant-loop-k
invariant-loop-k l = map Some l.circle.items ≡ take l.k l.delimiters
