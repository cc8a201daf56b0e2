use Rattle.std.proofs.Common.{◌≢◌, ℕ, ◌<◌}
use Rattle.splice_tee.specs.BranchStates.{served_at}
use Rattle.splice_tee.specs.declared.branches.Served.TheVariants as is
use Rattle.splice_tee.proofs.branches.Branches.no_other_lacks.Given as goal

abbrev pub invariant-loop-other : goal.invariant-loop-other
invariant-loop-other l = (j : ℕ) → j < l.other → j ≢ l.k → served_at l.self j ≢ is.Lacks
