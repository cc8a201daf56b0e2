use Rattle.std.proofs.Common.{◌≡◌, false, take}
use Rattle.commands.specs.Selections.{is_selected}
use Rattle.line_filters.proofs.ranges.Ranges.is_selected.Given as goal

abbrev pub invariant-loop-range : goal.invariant-loop-range
invariant-loop-range l = is_selected (take l.range-index l.ranges) l.n ≡ false
