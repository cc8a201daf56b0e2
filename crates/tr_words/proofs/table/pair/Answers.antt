use Rattle.std.proofs.Common.{arith, get_or, refl}
use Rattle.tr_words.proofs.TableLaws.{entered_more, nothing_entered}
use Rattle.tr_words.proofs.TableLaws.{none_left}
use Rattle.tr_words.proofs.table.pair.Goals as goal

pub returns-then-is_empty : goal.returns-then-is_empty
returns-then-is_empty c = λ x h. nothing_entered x
    (get_or c.args.table.now x 0) c.args.bytes1.now c.args.bytes2.now
    (none_left c.args.bytes2.now c.is_empty.result c.is_empty.ensures c.if-is_empty.true)

pub loop-byte-preserved : goal.loop-byte-preserved
loop-byte-preserved c =
    entered_more c.args.table.now c.loop-byte.table c.args.bytes1.now c.args.bytes2.now
    c.loop-byte.byte-index (get_or c.args.bytes1.now c.loop-byte.byte-index 0)
    c.loop-byte.rest.now c.next-rest.result.now (omega arith) refl
    (omega arith) c.next-rest.ensures.value c.next-rest.ensures.some c.loop-byte.invariant
