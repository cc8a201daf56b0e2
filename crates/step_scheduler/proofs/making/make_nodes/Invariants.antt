use Rattle.step_scheduler.proofs.lemmas.Numbered.{AreFirst}
use Rattle.step_scheduler.proofs.making.make_nodes.Given as goal

abbrev pub invariant-loop-number : goal.invariant-loop-number
invariant-loop-number l = AreFirst l.plan l.opened l.nodes.items l.number
