use Rattle.step_scheduler.proofs.lemmas.Lowest.{IsLowestOf}
use Rattle.step_scheduler.proofs.circles.lowest.Given as goal

abbrev pub invariant-loop-wait : goal.invariant-loop-wait
invariant-loop-wait l = IsLowestOf l.waits l.wait-index l.low
