-- What a step of a node came to.
use Rattle.std.specs.Prelude.{Bool, true, false}
use Rattle.run_types.specs.declared.step.Step.{Step}
use Rattle.run_types.specs.declared.step.Step.TheVariants as step

-- whether a step with this result moved something
abbrev pub is_moved : Step → Bool
is_moved step.Moved = true
is_moved (step.Waits p) = false
is_moved step.Ended = false
is_moved step.Broken = false
is_moved step.Failed = false
