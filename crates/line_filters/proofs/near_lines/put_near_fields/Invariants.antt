use Rattle.std.proofs.Common.{◌≡◌, ◌≤◌, ◌+◌, false, length, take, drop}
use Rattle.commands.specs.Selections.{is_selected}
use Rattle.line_filters.specs.inner.FieldPlaces.{IsLed}
use Rattle.line_filters.proofs.lemmas.StepLaws.{StepsPut}
use Rattle.line_filters.proofs.near_lines.put_near_fields.Given as goal

abbrev pub invariant-loop-step : goal.invariant-loop-step
invariant-loop-step l =
    StepsPut (is_selected l.ranges.ranges.items)
    (drop l.step-index l.ranges.steps.items) l.fn.walk.byte
    (take l.len l.bytes) l.walk.from l.first (take l.count l.fn.few) (take l.to l.few)
    × (l.walk.bytes ≡ take l.len l.bytes) × (l.walk.byte ≡ l.fn.walk.byte)
    × (l.first ≡ false → IsLed l.fn.walk.byte (take l.len l.bytes) l.walk.from)
    × (l.to ≤ l.count + l.walk.from) × (length l.few ≡ 1024)
