-- The exit statuses of the program.
use Rattle.std.specs.Prelude.{ℕ, if◌then◌else◌}
use Rattle.program.specs.declared.ending.Ending.{Ending}
use Rattle.program.specs.declared.ending.Ending.TheVariants.{Done, Stalled, Faulted}

-- 0 or 1 if all was done, 3 if the run stalled, 4 if it could not go on
abbrev pub status_of : Ending → ℕ
status_of (Done succeeded) = if succeeded then 0 else 1
status_of (Stalled waits circle) = 3
status_of (Faulted fault) = 4
