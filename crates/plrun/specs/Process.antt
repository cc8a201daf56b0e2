-- The exit status of the process, and what it did.
--
-- The exit status of a utility that a signal ended is above 128 (POSIX.1-2017 XCU 2.8.2); SIGPIPE,
-- whose number is 13, ends one whose reader has gone (XSH write, EPIPE).
use Rattle.std.specs.Prelude.{◌≡◌, ℕ, ◌≤◌, ◌⊎◌, Bool, true, false, ◌&&◌, if◌then◌else◌, List}
use Rattle.std.specs.Prelude.{◌∷◌, [], ◌++◌, Option, Some, None, IfSome, is_some, nat_lt, option_map}
use Rattle.collector.specs.Files.{FilesShown}
use Rattle.collector.specs.declared.fault.RunFault.TheVariants as fault
use Rattle.command_line.specs.Requests.{AsksFor}
use Rattle.command_line.specs.Words.{bytes_of_text}
use Rattle.command_line.specs.declared.request.Request.{Request}
use Rattle.command_line.specs.declared.request.Request.TheVariants.{Plan, Run}
use Rattle.planner.specs.Planned.{Planned}
use Rattle.plrun.specs.Looks.{FindsFiles, Look, check_of, found_status}
use Rattle.plrun.specs.Words.{AreHanded, asking_words}
use Rattle.plrun.specs.declared.looks.Found.{Found}
use Rattle.plrun.specs.declared.stats.AskedStats.{AskedStats}
use Rattle.program.specs.Reports.{report_of}
use Rattle.program.specs.Runs.{DoesWith, IsUndone}
use Rattle.program.specs.ScriptReads.{WritesNothing}
use Rattle.program.specs.Statuses.{status_of}
use Rattle.program.specs.declared.ending.Ending.{Ending}
use Rattle.program.specs.declared.ending.Ending.TheVariants.{Faulted}
use Rattle.program.specs.declared.ending.Refusal.{Refusal}
use Rattle.run_types.specs.declared.names.OutName.TheVariants as out_names

-- whether `--quiet-pipe` is set
abbrev pub is_quiet : Request → Bool
is_quiet (Run script settings strict placing progress stats stats_to quiet_pipe folder) = quiet_pipe
is_quiet _ = false

-- whether a run could not go on because a write to the standard output failed
abbrev pub is_unwritten : Ending → Bool
is_unwritten (Faulted (fault.WriteFault out_names.Standard)) = true
is_unwritten _ = false

-- whether the process ends as a utility that SIGPIPE ended: that is asked for, and the run could
-- not go on because the reader of the standard output has gone
abbrev pub ends_quietly : (quiet gone : Bool) → Ending → Bool
ends_quietly quiet gone ending = quiet && (gone && is_unwritten ending)

-- The exit status of the process after a request that ended so, but for what `--check` finds: 141
-- if the process ends quietly, otherwise that of the ending.
abbrev pub told_status : (quiet gone : Bool) → Ending → ℕ
told_status quiet gone ending = if ends_quietly quiet gone ending then 141 else status_of ending

-- whether the statistics that are asked for go to a file
abbrev pub names_file : Option AskedStats → Bool
names_file None = false
names_file (Some asked) = is_some asked.to

-- whether a request names a file for the statistics of its run
abbrev pub names_report : Request → Bool
names_report request = is_some (report_of request)

-- The statistics were lost, if a file is named for them and the last write of it failed. They were
-- not if none is named.
pub record IsLost (named failed lost : Bool) : Type 0 where
  pub unnamed : named ≡ false → lost ≡ false
  pub unwritten : named ≡ true → failed ≡ true → lost ≡ true

-- the exit status of the process if its statistics were lost, or were not: 4 in place of 0 or 1
abbrev pub reported_status : (lost : Bool) → ℕ → ℕ
reported_status lost status = if lost && nat_lt status 2 then 4 else status

-- the exit status of the process after a request that ended so, with its statistics lost or not, but
-- for what `--check` finds
abbrev pub ended_status : (quiet gone lost : Bool) → Ending → ℕ
ended_status quiet gone lost ending = reported_status lost (told_status quiet gone ending)

-- Files were looked at as a request asks that ended so, whose script has this plan. This was found,
-- and the exit status says it.
abbrev pub EndsFound : Request → Option Planned → (gone lost : Bool) → Ending
    → (before after : Option (List Look)) → Found → ℕ → Type 0
EndsFound request plan gone lost ending before after found status =
    FindsFiles (check_of request) plan (ended_status (is_quiet request) gone lost ending) before after
    found
    × (status ≡ found_status found (ended_status (is_quiet request) gone lost ending))

-- What the process did that a request was made of, and its exit status. It was refused, the status
-- is 2, no byte was written to any output, and no look was made for `--check`. Or it was carried out,
-- and the status is that after its ending and such looks. `gone` says whether the reader of the
-- standard output has gone, as the files say it, if that is known. `lost` says whether the file that
-- is named for the statistics did not take them. It did not if its last write failed.
abbrev pub EndsProcess : Bool → Request → FilesShown → FilesShown → (known : Option Bool)
    → (failed : Bool) → (before after : Option (List Look)) → ℕ → Type 0
EndsProcess contents_known request old new known failed before after status =
    ((status ≡ 2) × WritesNothing old new
    × ((why : Refusal) × IsUndone contents_known request old new why) × (after ≡ before))
    ⊎ ((ending : Ending) × (plan : Option Planned) × (gone : Bool) × (lost : Bool) × (found : Found)
    × DoesWith contents_known request plan old new ending
    × IfSome known (λ is. gone ≡ is)
    × IsLost (names_report request) failed lost
    × EndsFound request plan gone lost ending before after found status)

-- the folder that all names of a request are relative to, if it names one
abbrev pub folder_of : Request → Option (List ℕ)
folder_of (Plan script form check placing stats_to folder) =
    option_map (λ name. bytes_of_text name.now) folder
folder_of (Run script settings strict placing progress stats stats_to quiet_pipe folder) =
    option_map (λ name. bytes_of_text name.now) folder
folder_of _ = None

-- This folder was entered, after those that were before; none was if there is none.
abbrev pub Enters : Option (List ℕ) → List (List ℕ) → List (List ℕ) → Type 0
Enters None old new = new ≡ old
Enters (Some name) old new = new ≡ old ++ name ∷ []

-- What a process shows: its files, the folders that it entered, whether the reader of its standard
-- output has gone, if that is known, whether the last write of its statistics failed, and the looks
-- that it made for `--check`, if they are known.
pub record ProcessShown : Type 0 where
  pub files : FilesShown
  pub folders : List (List ℕ)
  pub gone : Option Bool
  pub failed : Bool
  pub looks : Option (List Look)

-- The exit status of a process with these words and this variable, by what it showed before and
-- after. It is 2, and nothing was done. Or it is that of the request that the words ask for, whose
-- folder was entered first.
abbrev pub EndsWords : Bool → List (List ℕ) → List ℕ → ProcessShown → ProcessShown → ℕ → Type 0
EndsWords contents_known given preset old new status =
    ((status ≡ 2) × (new.files ≡ old.files) × (new.looks ≡ old.looks))
    ⊎ ((request : Request) × AsksFor (asking_words given preset) request
    × Enters (folder_of request) old.folders new.folders
    × EndsProcess contents_known request old.files new.files new.gone new.failed old.looks new.looks
    status)

-- the same of the words and the variable that are handed over, as far as they are known
pub record EndsHanded (contents_known : Bool) (words : Option (List (List ℕ)))
    (options : Option (Option (List ℕ))) (old new : ProcessShown) (status : ℕ) : Type 0 where
  pub given : List (List ℕ)
  pub preset : List ℕ
  pub handed : AreHanded words options given preset
  pub ends : EndsWords contents_known given preset old new status

-- an exit status of the process
abbrev pub IsExitStatus : ℕ → Type 0
IsExitStatus status = (status ≤ 4) ⊎ (status ≡ 141)
