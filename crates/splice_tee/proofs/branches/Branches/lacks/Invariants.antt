use Rattle.std.proofs.Common.{◌≢◌, ℕ, ◌<◌, ◌≤◌}
use Rattle.splice_tee.specs.BranchStates.{served_at}
use Rattle.splice_tee.specs.declared.branches.Served.TheVariants as is
use Rattle.splice_tee.proofs.branches.Branches.lacks.Given as goal

abbrev pub invariant-loop-k : goal.invariant-loop-k
invariant-loop-k l = (j : ℕ) → l.from ≤ j → j < l.k → served_at l.self j ≢ is.Lacks
