use Rattle.std.proofs.Common.{◌≡◌}
use Rattle.waiting_inputs.proofs.table.Table.take_until_ready.Given as goal

abbrev pub invariant-loop : goal.invariant-loop
invariant-loop g l = l.self.inputs.items ≡ l.fn.self.inputs.items
