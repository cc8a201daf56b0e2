use Rattle.std.proofs.Common.{◌≡◌, ◌+◌, ◌<◌, ℕ, cond, get_or, take}
use Rattle.std.specs.Int.{bit_at}
use Rattle.lanes.specs.Spans.{in_spans}
use Rattle.lanes.proofs.span.spans_marks.Given as goal

abbrev pub invariant-loop-span : goal.invariant-loop-span
invariant-loop-span l = (k : ℕ) → k < 64
    → bit_at l.all k ≡ cond (in_spans (take l.span-index l.spans) (get_or l.bytes (l.at + k) 0)) 1 0
