use Rattle.std.proofs.Common.{◌≡◌}
use Rattle.waiting_inputs.proofs.table.Table.wait.Given as goal

abbrev pub invariant-loop-input : goal.invariant-loop-input
invariant-loop-input g l = l.self.inputs.items ≡ l.fn.self.inputs.items
