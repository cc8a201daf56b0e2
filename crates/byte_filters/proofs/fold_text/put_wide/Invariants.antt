use Rattle.std.proofs.Common.{◌≤◌, ◌-◌}
use Rattle.byte_filters.proofs.lemmas.FoldParts.{HasFolded}
use Rattle.byte_filters.proofs.fold_text.put_wide.Given as goal

abbrev pub invariant-cuts : goal.invariant-cuts
invariant-cuts l = (l.at ≤ l.even) × HasFolded l.spec l.bytes l.at l.fn.made l.made

abbrev pub decreases-cuts : goal.decreases-cuts
decreases-cuts l = l.even - l.at
