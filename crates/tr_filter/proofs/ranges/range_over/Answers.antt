use Rattle.std.proofs.Common.{ap, get_or, set, sym, arith, ◌∙◌}
use Rattle.std.proofs.lemmas.List.{get_or_default}
use Rattle.std.proofs.lemmas.List.Edits.{map_over_more}
use Rattle.tr_filter.specs.Ranges.{becomes, ranges_table}
use Rattle.tr_words.proofs.TableLaws.{entry_is}
use Rattle.tr_filter.proofs.ranges.range_over.Goals as goal

pub loop-byte-preserved : goal.loop-byte-preserved
loop-byte-preserved c =
    let bytes = c.loop-byte.bytes in
    let i = c.loop-byte.byte-index in
    let x = get_or bytes i 0 in
    ap (set bytes i) (c.becomes.ensures ∙ sym (entry_is (becomes c.args.ranges) x 0 (omega arith)))
    ∙ map_over_more (λ y. get_or (ranges_table c.args.ranges) y 0) c.args.bytes.now bytes i x
    c.loop-byte-test.true c.loop-byte.invariant (get_or_default bytes i 0 x (omega arith))
