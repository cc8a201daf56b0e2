use Rattle.std.proofs.Common.{◌≡◌, ◌-◌, ◌++◌}
use Rattle.std.specs.List.{filter, range_with_len}
use Rattle.tr_words.specs.Classes.{is_in, members}
use Rattle.tr_words.proofs.expansion.add_class.Given as goal

abbrev pub invariant-loop-index : goal.invariant-loop-index
invariant-loop-index l = l.bytes.items ++ filter (is_in l.class)
    (range_with_len l.index (256 - l.index)) ≡ l.fn.bytes.items ++ members l.class
