use Rattle.std.proofs.Common.{ℕ, List, false, ◌++◌, ◌∙◌, ap, subst, sym}
use Rattle.std.specs.List.{concat}
use Rattle.machine.specs.declared.piece.Item.{Item}
use Rattle.collector.specs.inner.Joins.{Took, item_bytes, is_last}
use Rattle.collector.proofs.lemmas.Joins.{took_more, concat_push}
use Rattle.collector.proofs.joining.take_piece.Goals as goal

pub returns : goal.returns
returns c = record {
  took = λ start took.
      let before = concat c.args.pieces.now in
      let more = took_more start c.args.end.now c.take.new.self before c.in-Some-Bytes.field-0 took
      c.in-Some-Bytes.ensures.some c.in-Some-Bytes.ensures.goes_on in
      let piece = subst (λ (i : Item). Took start c.take.new.self (before ++ item_bytes i)
      (is_last i)) c.in-Some-Bytes.field-0-is more in
      subst (λ (l : List ℕ). Took start c.take.new.self l false)
      (sym (ap concat c.push.ensures
      ∙ concat_push c.args.pieces.now c.in-Some-Bytes.piece)) piece;
}
