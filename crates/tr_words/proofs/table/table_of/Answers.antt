use Rattle.std.proofs.Common.{ap, ◌∙◌}
use Rattle.tr_words.specs.Tables.{pairs_of, last_for}
use Rattle.tr_words.proofs.TableLaws.{entries_are}
use Rattle.tr_words.proofs.table.table_of.Goals as goal

pub returns : goal.returns
returns c =
    let pairs = pairs_of c.args.bytes1.now c.args.bytes2.now in
    entries_are (λ x. last_for x x pairs) c.pair.new.table 0 c.pair.array_long
    (λ x h. c.pair.ensures x h ∙ ap (λ y. last_for y x pairs) (c.unchanged-table.ensures x h))
