use Rattle.std.proofs.Common.{◌++◌, ◌∷◌, [], arith}
use Rattle.std.specs.List.{repeat}
use Rattle.tr_words.proofs.lemmas.ExpansionLaws.{copies_go_on, copies_end}
use Rattle.tr_words.proofs.expansion.add_copies.Goals as goal

pub loop-preserved : goal.loop-preserved
loop-preserved c =
    copies_go_on c.args.byte c.args.count c.loop.counter c.loop.bytes.items
    c.add_byte.new.bytes.items
    (c.args.bytes.now.items ++ repeat c.args.count (c.args.byte ∷ []))
    (omega arith) c.in_ok-add_byte.ensures c.loop.invariant

pub returns : goal.returns
returns c =
    copies_end c.args.byte c.args.count c.loop.counter c.loop.bytes.items
    (c.args.bytes.now.items ++ repeat c.args.count (c.args.byte ∷ []))
    (omega arith) c.loop.invariant
