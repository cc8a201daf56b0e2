use Rattle.std.proofs.Common.{◌≡◌}
use Rattle.file_stores.proofs.host.input.ask_each.Given as goal

abbrev pub invariant-loop-file : goal.invariant-loop-file
invariant-loop-file g l = l.inputs.items ≡ l.fn.inputs.items
