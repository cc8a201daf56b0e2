use Rattle.std.proofs.Common.{◌-◌, length}
use Rattle.byte_filters.proofs.lemmas.CountLaws.{HasBegunUpTo}
use Rattle.byte_filters.proofs.counts.words_after.Given as goal

abbrev pub invariant-loop-at : goal.invariant-loop-at
invariant-loop-at l = HasBegunUpTo l.before l.bytes l.at l.words l.last

abbrev pub decreases-loop-at : goal.decreases-loop-at
decreases-loop-at l = length l.bytes - l.at
