-- The outputs of a run: all of them get their new content, or none does, if that is asked for.
--
-- A shell leaves of each file what its commands wrote until they failed (POSIX.1-2017 XCU 2.7.2,
-- 2.8.1). With `--atomic` a file is renamed to its place once all is written (XSH rename).
use Rattle.std.specs.Prelude.{◌≡◌, ℕ, ◌≤◌, ◌⊎◌, Bool, true, false, List}
use Rattle.clap.specs.Words.{Text}
use Rattle.collector.specs.Files.{FilesShown}
use Rattle.collector.specs.Places.{KeepsFiles}
use Rattle.collector.specs.declared.fault.RunFault.{RunFault}
use Rattle.command_line.specs.Requests.{AsksFor}
use Rattle.command_line.specs.declared.request.Request.{Request}
use Rattle.command_line.specs.declared.request.Request.TheVariants.{Run}
use Rattle.command_line.specs.declared.request.ScriptFrom.{ScriptFrom}
use Rattle.openings.specs.Answers.{OpenedFiles}
use Rattle.plan_runs.specs.Placings.{StopsPlacing}
use Rattle.planner.specs.Planned.{Planned}
use Rattle.program.specs.declared.ending.Ending.{Ending}
use Rattle.program.specs.declared.ending.Ending.TheVariants.{Done, Stalled, Faulted}
use Rattle.run_types.specs.Destinations.{Destination}
use Rattle.run_types.specs.Placings.{is_held}
use Rattle.program.specs.Runs.{HasPlan}
use Rattle.program.specs.ScriptReads.{IsGiven}

-- whether a run is asked for whose outputs are held back until it has finished
abbrev pub is_atomic : Request → Bool
is_atomic (Run script settings strict placing progress stats stats_to quiet_pipe folder) =
    is_held placing
is_atomic _ = false

-- A run of this plan finished, and then an output could not be put in place for this fault. `start`
-- has what every destination held at first.
pub record StopsPlan (plan : Planned) (old new : FilesShown) (why : RunFault) : Type 0 where
  pub opened : OpenedFiles
  pub start : FilesShown
  pub contents : (d : Destination) → start.contents d ≡ old.contents d
  pub stops : StopsPlacing plan opened start new why

-- The text of a script was given. A run of its plan finished, and then an output could not be put
-- in place for this fault.
pub record StopsRun (script : ScriptFrom) (old new : FilesShown) (why : RunFault) : Type 0 where
  pub text : List ℕ
  pub then : FilesShown
  pub given : IsGiven script text old then
  pub plan : Planned
  pub has_plan : HasPlan text plan
  pub stops : StopsPlan plan then new why

-- the same of the script of a request; only a run is asked for with outputs that are held back
abbrev pub StopsRequest : Request → FilesShown → FilesShown → RunFault → Type 0
StopsRequest (Run script settings strict placing progress stats stats_to quiet_pipe folder) =
    StopsRun script
StopsRequest _ = λ old new why. ⊥

-- A run that did not finish left the file of each name as it was, unless it only failed to put an
-- output in place: that is so if it stopped for that fault.
abbrev pub KeepsUnless : (stops : RunFault → Type 0) → FilesShown → FilesShown → Ending → Type 0
KeepsUnless stops old new (Done succeeded) = Unit {0}
KeepsUnless stops old new (Stalled waits circle) = KeepsFiles old new
KeepsUnless stops old new (Faulted why) = KeepsFiles old new ⊎ stops why

-- The same by the exit status of a request.
abbrev pub KeepsUnlessOk : (stops : RunFault → Type 0) → FilesShown → FilesShown → ℕ → Type 0
KeepsUnlessOk stops old new status = (status ≤ 1) ⊎ (KeepsFiles old new
    ⊎ ((status ≡ 4) × ((why : RunFault) × stops why)))

-- What the program leaves of the files, by its exit status. The words ask for nothing, and no file
-- was touched; or they ask for this, and if that is a run whose outputs are held back, then the
-- status is 0 or 1, or the file of each name holds what it held, or an output of the script's plan
-- could not be put in place.
abbrev pub LeavesAllOrNothing : List Text → FilesShown → FilesShown → ℕ → Type 0
LeavesAllOrNothing words old new status = ((status ≡ 2) × (new ≡ old))
    ⊎ ((request : Request) × AsksFor words request
    × (is_atomic request ≡ true → KeepsUnlessOk (StopsRequest request old new) old new status))
