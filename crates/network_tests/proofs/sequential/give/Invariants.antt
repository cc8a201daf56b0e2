use Rattle.network_tests.proofs.lemmas.ComputeLaws.{GivenUpTo}
use Rattle.network_tests.proofs.sequential.give.Given as goal

abbrev pub invariant-loop-pipe : goal.invariant-loop-pipe
invariant-loop-pipe l = GivenUpTo l.pipe l.pipes l.node l.out l.fn.held.items l.held.items
