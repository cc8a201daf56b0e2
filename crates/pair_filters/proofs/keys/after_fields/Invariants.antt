use Rattle.std.proofs.Common.{◌≡◌}
use Rattle.commands.specs.Keys.{after_fields}
use Rattle.pair_filters.proofs.keys.after_fields.Given as goal

abbrev pub invariant-loop-left : goal.invariant-loop-left
invariant-loop-left l = after_fields l.left l.rest ≡ after_fields l.n l.content

abbrev pub decreases-loop-left : goal.decreases-loop-left
decreases-loop-left l = l.left
