use Rattle.line_filters.proofs.lemmas.RangeLaws.{Keeps}
use Rattle.line_filters.proofs.ranges.Ranges.that_add.Given as goal

abbrev pub invariant-loop-range : goal.invariant-loop-range
invariant-loop-range l = Keeps l.sorted l.kept.items l.top l.range-index
