-- When outputs get what is written to them.
--
-- A shell writes each file as its commands write (POSIX.1-2017 XCU 2.7.2). A new file that is
-- renamed over an old one takes its place at once (XSH rename).
use Rattle.std.specs.Prelude.{Bool, true, false}
use Rattle.run_types.specs.declared.placing.Placing.{Placing}
use Rattle.run_types.specs.declared.placing.Placing.TheVariants.{AsWritten, AtEnd, AtEndStored}

-- whether what is written is held back until the run has finished
abbrev pub is_held : Placing → Bool
is_held AsWritten = false
is_held AtEnd = true
is_held AtEndStored = true
