use Rattle.graphs.proofs.lemmas.CircleLaws.{AreFirst}
use Rattle.graphs.proofs.circles.round.Given as goal

abbrev pub invariant-loop : goal.invariant-loop
invariant-loop l = AreFirst l.next l.start l.places.items l.index l.place
