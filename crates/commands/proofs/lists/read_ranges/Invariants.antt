use Rattle.std.proofs.Common.{◌≡◌, length}
use Rattle.commands.specs.Lists.{ranges_in}
use Rattle.commands.proofs.lemmas.ListLaws.{behind}
use Rattle.commands.proofs.lists.read_ranges.Given as goal

abbrev pub invariant-loop-range : goal.invariant-loop-range
invariant-loop-range l = behind l.ranges.items (ranges_in l.rest) ≡ ranges_in l.list

abbrev pub decreases-loop-range : goal.decreases-loop-range
decreases-loop-range l = length l.rest
