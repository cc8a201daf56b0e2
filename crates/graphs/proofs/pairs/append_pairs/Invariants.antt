use Rattle.std.proofs.Common.{◌≡◌, ◌++◌, map, take}
use Rattle.graphs.proofs.pairs.append_pairs.Given as goal

abbrev pub invariant-loop-reader : goal.invariant-loop-reader
invariant-loop-reader l = l.pairs.items ≡ l.initial.pairs.items ++ map
    (λ reader. (l.writer, reader)) (take l.reader-index l.readers)
