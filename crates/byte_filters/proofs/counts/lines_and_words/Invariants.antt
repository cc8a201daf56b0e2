use Rattle.std.proofs.Common.{◌-◌, length}
use Rattle.byte_filters.proofs.lemmas.CountLaws.{HasBegunUpTo}
use Rattle.byte_filters.proofs.lemmas.TallyLaws.{HasEndedUpTo}
use Rattle.byte_filters.proofs.counts.lines_and_words.Given as goal

abbrev pub invariant-loop-at : goal.invariant-loop-at
invariant-loop-at l = HasBegunUpTo l.before l.bytes l.at l.words l.last
    × HasEndedUpTo l.bytes l.at l.lines

abbrev pub decreases-loop-at : goal.decreases-loop-at
decreases-loop-at l = length l.bytes - l.at
