use Rattle.std.proofs.Common.{◌≡◌, false, length, ◌-◌}
use Rattle.line_filters.specs.inner.FieldPlaces.{IsLed}
use Rattle.lanes.specs.inner.Prefixes.{prefix_bytes}
use Rattle.line_filters.proofs.lemmas.FieldLaws.{FieldsPut}
use Rattle.line_filters.proofs.cut_content.put_fields.Given as goal

abbrev pub invariant-loop-range : goal.invariant-loop-range
invariant-loop-range l =
    FieldsPut l.ranges.ranges.items l.delimiter
    (prefix_bytes l.content) l.at l.number l.passed l.first l.fn.made l.made
    × (l.walk.bytes ≡ prefix_bytes l.content) × (l.walk.byte ≡ l.delimiter) × (l.walk.from ≡ l.at)
    × (l.first ≡ false → IsLed l.delimiter (prefix_bytes l.content) l.at)

abbrev pub decreases-loop-range : goal.decreases-loop-range
decreases-loop-range l = length (prefix_bytes l.content) - l.at
