use Rattle.std.proofs.Common.{false, refl, arith, ◌∙◌, ap}
use Rattle.std.proofs.lemmas.List.{get_or-replicate, take_all}
use Rattle.tr_words.specs.Tables.{is_among}
use Rattle.tr_words.proofs.TableLaws.{entries_are}
use Rattle.tr_words.proofs.table.set_of.Goals as goal

pub loop-byte-init : goal.loop-byte-init
loop-byte-init c = (refl, λ x h. get_or-replicate 256 x false false h)

pub returns : goal.returns
returns c =
    entries_are (λ x. is_among x c.args.bytes.now) c.loop-byte.set false c.loop-byte.invariant.0
    (λ x h. c.loop-byte.invariant.1 x h
    ∙ ap (is_among x) (take_all c.loop-byte.byte-index c.args.bytes.now (omega arith)))
