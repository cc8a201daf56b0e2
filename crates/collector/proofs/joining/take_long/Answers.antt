use Rattle.std.proofs.Common.{false}
use Rattle.std.specs.List.{concat}
use Rattle.collector.proofs.lemmas.Joins.{took_same}
use Rattle.collector.proofs.joining.take_long.Goals as goal

pub loop-preserved : goal.loop-preserved
loop-preserved c = λ start took. c.take_piece.ensures.took start
    (took_same start c.loop.end c.next_size.new.self (concat c.loop.pieces) false
    (c.loop.invariant start took) c.next_size.ensures.same c.next_size.ensures.goes_on)
