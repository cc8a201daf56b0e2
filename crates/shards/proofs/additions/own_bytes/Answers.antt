use Rattle.std.proofs.Common.{arith, ◌∙◌, length-set, set}
use Rattle.tr_words.proofs.TableLaws.{same_more}
use Rattle.shards.proofs.lemmas.AdditionLaws.{own_entries}
use Rattle.shards.proofs.additions.own_bytes.Goals as goal

pub loop-byte-preserved : goal.loop-byte-preserved
loop-byte-preserved c = (
  length-set c.loop-byte.table c.loop-byte.byte c.loop-byte.byte ∙ c.loop-byte.invariant.0,
  same_more c.loop-byte.table c.loop-byte.byte (omega arith) c.loop-byte.invariant.1,
)

pub returns-2 : goal.returns-2
returns-2 c =
    let table = set c.loop-byte.table c.loop-byte.byte c.loop-byte.byte in
    own_entries table
    (length-set c.loop-byte.table c.loop-byte.byte c.loop-byte.byte ∙ c.loop-byte.invariant.0)
    (λ x h. same_more c.loop-byte.table c.loop-byte.byte
    (omega arith) c.loop-byte.invariant.1 x (omega arith))
