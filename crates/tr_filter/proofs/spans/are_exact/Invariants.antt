use Rattle.std.proofs.Common.{◌≡◌, ◌<◌, ℕ}
use Rattle.tr_filter.specs.Covers.{in_all}
use Rattle.tr_words.specs.Tr.{in_set}
use Rattle.tr_filter.proofs.spans.are_exact.Given as goal

abbrev pub invariant-loop-index : goal.invariant-loop-index
invariant-loop-index l = (x : ℕ) → x < l.index → in_all l.spans x ≡ in_set l.set x
