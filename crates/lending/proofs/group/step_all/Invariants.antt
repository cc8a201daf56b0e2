use Rattle.std.proofs.Common.{◌≤◌}
use Rattle.lending.proofs.lemmas.TurnLaws.{StepsFirst}
use Rattle.lending.proofs.group.step_all.Given as goal

abbrev pub invariant-loop-k : goal.invariant-loop-k
invariant-loop-k g l = record {
  most : l.moved ≤ l.k;
  steps : StepsFirst g.M.Machine.shows l.k l.fn.stages l.stages l.moved;
}
