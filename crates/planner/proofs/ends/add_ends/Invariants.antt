use Rattle.std.proofs.Common.{◌≡◌, ◌++◌, map}
use Rattle.planner.specs.Ends.{end_at}
use Rattle.planner.proofs.ends.add_ends.Given as goal

abbrev pub invariant-loop-number : goal.invariant-loop-number
invariant-loop-number l = l.ends.items ≡ l.initial.ends.items ++ map (end_at l.stage) l.yielded
