use Rattle.std.proofs.Common.{arith}
use Rattle.tr_filter.specs.Ranges.{becomes}
use Rattle.tr_words.proofs.TableLaws.{entries_are}
use Rattle.tr_filter.proofs.ranges.are_ranges.Goals as goal

pub returns : goal.returns
returns c = λ _. entries_are (becomes c.args.ranges) c.args.table.now 0 (omega arith)
    (λ x h. c.loop-index.invariant x (omega arith))
