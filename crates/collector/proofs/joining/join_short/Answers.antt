use Rattle.std.proofs.Common.{ℕ, List, false, subst, sym}
use Rattle.collector.specs.inner.Joins.{Took}
use Rattle.collector.proofs.lemmas.Joins.{took_same}
use Rattle.collector.proofs.joining.join_short.Goals as goal

pub loop-preserved : goal.loop-preserved
loop-preserved c = λ start took. c.join_next.ensures.took start
    (subst (λ (l : List ℕ). Took start c.next_size.new.self l false) (sym c.reserve.ensures.items)
    (took_same start c.loop.end c.next_size.new.self c.loop.bytes.items false
    (c.loop.invariant start took) c.next_size.ensures.same c.next_size.ensures.goes_on))
