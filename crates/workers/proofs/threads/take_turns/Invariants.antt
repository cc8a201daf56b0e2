use Rattle.lending.specs.inner.Loans.{GroupGoesOn}
use Rattle.workers.proofs.threads.take_turns.Given as goal

abbrev pub invariant-loop-turn : goal.invariant-loop-turn
invariant-loop-turn g l = GroupGoesOn g.M.Machine.shows l.fn.group l.group
