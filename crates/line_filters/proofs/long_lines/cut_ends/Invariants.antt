use Rattle.std.proofs.Common.{◌≡◌, ◌++◌, length}
use Rattle.std.specs.List.{concat}
use Rattle.line_filters.proofs.long_lines.cut_ends.Given as goal

abbrev pub invariant-loop-line : goal.invariant-loop-line
invariant-loop-line l = l.fn.line.items ≡ l.line.items ++ concat l.ends.items

abbrev pub decreases-loop-line : goal.decreases-loop-line
decreases-loop-line l = length l.line.items
