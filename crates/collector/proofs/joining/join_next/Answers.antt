use Rattle.std.proofs.Common.{ℕ, List, false, ◌++◌, subst, rules}
use Rattle.machine.specs.declared.piece.Item.{Item}
use Rattle.collector.specs.inner.Joins.{Took, item_bytes, is_last}
use Rattle.collector.proofs.lemmas.Joins.{took_more}
use Rattle.collector.proofs.joining.join_next.Goals as goal

pub returns : goal.returns
returns c = record {
  took = λ start took.
      let before = c.args.bytes.now.items in
      let more = took_more start c.args.end.now c.take.new.self before c.in-Some-Bytes.field-0 took
      c.in-Some-Bytes.ensures.some c.in-Some-Bytes.ensures.goes_on in
      let piece = subst (λ (i : Item). Took start c.take.new.self (before ++ item_bytes i)
      (is_last i)) c.in-Some-Bytes.field-0-is more in
      subst (λ (l : List ℕ). Took start c.take.new.self l false) (search rules) piece;
}
