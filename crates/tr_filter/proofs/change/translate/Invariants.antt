use Rattle.std.proofs.Common.{◌≡◌, ◌≤◌, length}
use Rattle.tr_filter.specs.inner.Progress.{Thinned}
use Rattle.tr_filter.proofs.change.translate.Given as goal

abbrev pub invariant-loop-i : goal.invariant-loop-i
invariant-loop-i l = (l.kept ≤ l.i) × (length l.bytes ≡ length l.fn.bytes)
    × Thinned l.spec l.fn.bytes l.bytes l.kept l.i
