use Rattle.std.proofs.Common.{◌≡◌, ◌+◌, drop}
use Rattle.std.specs.List.{prefix_len}
use Rattle.byte_filters.specs.inner.Scans.{is_plain}
use Rattle.byte_filters.proofs.segment.few_plain.Given as goal

abbrev pub invariant-loop-i : goal.invariant-loop-i
invariant-loop-i l = l.i + prefix_len is_plain (drop l.i l.bytes) ≡ prefix_len is_plain l.bytes
