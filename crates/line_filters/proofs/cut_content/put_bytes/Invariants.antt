use Rattle.std.proofs.Common.{length, ◌-◌}
use Rattle.lanes.specs.inner.Prefixes.{prefix_bytes}
use Rattle.line_filters.proofs.lemmas.CutLaws.{BytesPut}
use Rattle.line_filters.proofs.cut_content.put_bytes.Given as goal

abbrev pub invariant-loop-range : goal.invariant-loop-range
invariant-loop-range l = BytesPut l.ranges.ranges.items l.before
    (prefix_bytes l.content) l.at l.passed l.fn.made l.made

abbrev pub decreases-loop-range : goal.decreases-loop-range
decreases-loop-range l = length (prefix_bytes l.content) - l.at
