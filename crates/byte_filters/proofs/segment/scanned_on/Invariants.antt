use Rattle.std.proofs.Common.{◌≡◌, ◌+◌, drop}
use Rattle.byte_filters.specs.inner.Scans.{scanned}
use Rattle.byte_filters.proofs.segment.scanned_on.Given as goal

abbrev pub invariant-loop-i : goal.invariant-loop-i
invariant-loop-i l = (l.scan.at + 1 ≡ l.i)
    × (scanned l.spec l.scan (drop l.i l.bytes) ≡ scanned l.spec l.fn.scan
    (drop (l.fn.scan.at + 1) l.bytes))
