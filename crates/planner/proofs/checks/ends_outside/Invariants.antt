use Rattle.std.proofs.Common.{take}
use Rattle.planner.specs.Faults.{EndsOutside}
use Rattle.planner.proofs.checks.ends_outside.Given as goal

abbrev pub invariant-loop-stage : goal.invariant-loop-stage
invariant-loop-stage l = EndsOutside l.fifos (take l.stage-index l.stages) → ⊥
