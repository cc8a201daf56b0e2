use Rattle.std.proofs.Common.{take}
use Rattle.planner.specs.Faults.{EndsInFifo}
use Rattle.planner.proofs.checks.ends_in_fifo.Given as goal

abbrev pub invariant-loop-stage : goal.invariant-loop-stage
invariant-loop-stage l = EndsInFifo l.fifos (take l.stage-index l.stages) → ⊥
