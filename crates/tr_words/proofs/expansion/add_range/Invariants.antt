use Rattle.std.proofs.Common.{◌≡◌, ◌++◌}
use Rattle.tr_words.specs.Expansions.{range}
use Rattle.tr_words.proofs.expansion.add_range.Given as goal

abbrev pub invariant-loop-byte : goal.invariant-loop-byte
invariant-loop-byte l = l.bytes.items ++ range l.byte l.last
    ≡ l.fn.bytes.items ++ range l.first l.last
