use Rattle.std.proofs.Common.{◌++◌, arith}
use Rattle.tr_words.specs.Expansions.{range}
use Rattle.tr_words.proofs.lemmas.ExpansionLaws.{range_goes_on}
use Rattle.tr_words.proofs.expansion.add_range.Goals as goal

pub loop-byte-preserved : goal.loop-byte-preserved
loop-byte-preserved c =
    range_goes_on c.loop-byte.byte c.args.last c.loop-byte.bytes.items c.add_byte.new.bytes.items
    (c.args.bytes.now.items ++ range c.args.first c.args.last)
    (omega arith) c.in_ok-add_byte.ensures c.loop-byte.invariant
