use Rattle.std.proofs.Common.{◌≡◌}
use Rattle.file_stores.proofs.host.output.leave_all.Given as goal

abbrev pub invariant-loop-file : goal.invariant-loop-file
invariant-loop-file g l = l.outputs.items ≡ l.fn.outputs.items
