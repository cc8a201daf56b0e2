use Rattle.std.proofs.Common.{◌≡◌, ◌<◌, ℕ, Some, false}
use Rattle.tr_words.specs.Tr.{in_set}
use Rattle.tr_filter.specs.inner.FewSpans.{in_few}
use Rattle.tr_filter.proofs.few.covers.Given as goal

abbrev pub invariant-loop-index : goal.invariant-loop-index
invariant-loop-index l = (x : ℕ) → x < l.index → in_few l.few x ≡ false
    → in_set (Some l.set) x ≡ false
