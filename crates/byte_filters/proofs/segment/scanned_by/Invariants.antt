use Rattle.std.proofs.Common.{◌≡◌, ◌+◌, ◌-◌, ◌≤◌, drop, false, length}
use Rattle.byte_filters.specs.inner.Scans.{scanned}
use Rattle.byte_filters.proofs.segment.scanned_by.Given as goal

abbrev pub invariant-loop-now : goal.invariant-loop-now
invariant-loop-now l =
    (l.now.at + 1 ≤ length l.bytes) × (l.now.over ≡ false)
    × (scanned l.spec l.now (drop (l.now.at + 1) l.bytes)
    ≡ scanned l.spec l.fn.scan (drop (l.fn.scan.at + 1) l.bytes))

abbrev pub decreases-loop-now : goal.decreases-loop-now
decreases-loop-now l = length l.bytes - l.now.at
