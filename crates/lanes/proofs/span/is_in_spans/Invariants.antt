use Rattle.std.proofs.Common.{◌≡◌, false, take}
use Rattle.lanes.specs.Spans.{in_spans}
use Rattle.lanes.proofs.span.is_in_spans.Given as goal

abbrev pub invariant-loop-span : goal.invariant-loop-span
invariant-loop-span l = in_spans (take l.span-index l.spans) l.byte ≡ false
