use Rattle.std.proofs.Common.{◌≡◌, ◌+◌, ◌≤◌, length, drop}
use Rattle.file_stores.specs.inner.Ends.{newlines_in}
use Rattle.file_stores.proofs.ends.newline_from_end.Given as goal

abbrev pub invariant-loop-end : goal.invariant-loop-end
invariant-loop-end l = record {
  within : l.end ≤ length l.bytes;
  counted : newlines_in (drop l.end l.bytes) + l.left ≡ l.passed;
}

abbrev pub decreases-loop-end : goal.decreases-loop-end
decreases-loop-end l = l.end
