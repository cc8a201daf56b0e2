use Rattle.std.proofs.Common.{◌≡◌, ◌++◌}
use Rattle.std.specs.List.{flat_map, range_with_len}
use Rattle.commands.specs.Delimiters.{delimiter}
use Rattle.pair_filters.proofs.delimiters.put_delimiters.Given as goal

abbrev pub invariant-loop-i : goal.invariant-loop-i
invariant-loop-i l = l.made ≡ l.fn.made ++ flat_map (delimiter l.delimiters) (range_with_len 0 l.i)
