use Rattle.std.proofs.Common.{◌≡◌, ◌<◌, ℕ, Some, not}
use Rattle.tr_words.specs.Tr.{in_set}
use Rattle.tr_filter.specs.inner.Nibbles.{is_left}
use Rattle.tr_filter.proofs.nibbles.are_tables.Given as goal

abbrev pub invariant-loop-index : goal.invariant-loop-index
invariant-loop-index l = (x : ℕ) → x < l.index → is_left l.nibbles x ≡ not (in_set (Some l.set) x)
