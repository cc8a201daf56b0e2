-- What running a script came to, by what the files show before and after.
--
-- The exit status of a script is that of its pipeline, and the program's is the script's
-- (POSIX.1-2017 XCU 2.9.2, sh, EXIT STATUS).
use Rattle.std.specs.Prelude.{◌≡◌, ℕ, ◌==◌, ◌⊎◌, Bool, true, IsTrue, List, ◌∷◌, [], ◌++◌, Some}
use Rattle.std.specs.Prelude.{None, Option, false, length}
use mathlib.Core.List.{IsPrefix}
use Rattle.std.specs.Borrow.{Bor}
use Rattle.pipeline_text.specs.Grammar.{script_of}
use Rattle.pipeline_text.specs.Refusals.{IsRefusal}
use Rattle.pipeline_text.specs.declared.script.Script.{Script}
use Rattle.planner.specs.Planned.{Planned, IsPlanOf, MeetsFault, graph_of}
use Rattle.collector.specs.Files.{FilesShown, OpensNothing, OtherLogs, Refuses, SameLogs, one_more}
use Rattle.collector.specs.Files.{writes_of}
use Rattle.collector.specs.Places.{BeginsOutputs, KeepsFiles}
use Rattle.collector.specs.declared.fault.RunFault.TheVariants as fault
use Rattle.run_types.specs.Destinations.{FileOf}
use Rattle.run_types.specs.Limits.{FitsPipes}
use Rattle.run_types.specs.Placings.{is_held}
use Rattle.run_types.specs.declared.placing.Placing.{Placing}
use Rattle.run_types.specs.declared.names.OutName.TheVariants as out_names
use Rattle.collector.specs.declared.names.Opening.TheVariants as opening
use Rattle.network_laws.specs.declared.outcome.Outcome.{Outcome}
use Rattle.network_laws.specs.declared.outcome.Outcome.TheVariants as outcome
use Rattle.openings.specs.Answers.{OpenedFiles, missing_places}
use Rattle.openings.specs.Fronts.{LeavesFronts}
use Rattle.openings.specs.Openings.{OpensAll}
use Rattle.openings.specs.declared.fault.OpenFault.TheVariants as not_opened
use Rattle.graphs.specs.Graph.{IsForest}
use Rattle.networks.specs.Turns.{IsNoStall, IsSound}
use Rattle.plan_runs.specs.Contents.{HoldsOutputs, LeavesRests}
use Rattle.plan_runs.specs.Placings.{IsFinished, LeavesAnswer, RunsAndPlaces}
use Rattle.clap.specs.Words.{Text}
use Rattle.run_types.specs.declared.settings.Settings.{Settings}
use Rattle.command_line.specs.Requests.{AsksFor, IsMisuse}
use Rattle.command_line.specs.declared.misuse.Misuse.{Misuse}
use Rattle.command_line.specs.declared.request.Request.{Request}
use Rattle.command_line.specs.declared.request.Request.TheVariants.{Help, Version, Explain, Codes}
use Rattle.command_line.specs.declared.request.Request.TheVariants.{Plan, Run}
use Rattle.command_line.specs.declared.request.ScriptFrom.{ScriptFrom}
use Rattle.command_line.specs.declared.showing.PlanForm.{PlanForm}
use Rattle.command_line.specs.declared.showing.PlanForm.TheVariants.{Shards}
use Rattle.command_line.specs.declared.showing.ShardsForm.{ShardsForm}
use Rattle.command_line.specs.declared.showing.ShardsForm.TheVariants.{Map, Combine}
use Rattle.machine.specs.Lines.{newline}
use Rattle.shards.specs.Shards.{AreShards, HasNoShards}
use Rattle.shards.specs.declared.fault.ShardsFault.{ShardsFault}
use Rattle.program.specs.Reports.{FailsOpening, IsApart}
use Rattle.program.specs.ScriptReads.{IsGiven, IsNotGiven}
use Rattle.program.specs.Statuses.{status_of}
use Rattle.program.specs.declared.ending.Ending.{Ending}
use Rattle.program.specs.declared.ending.Refusal.{Refusal}
use Rattle.program.specs.declared.ending.Refusal.TheVariants as refusal
use Rattle.program.specs.declared.ending.Ending.TheVariants.{Done, Stalled, Faulted}

-- the ending of the program says the result of the run: it has succeeded if the exit status is 0
abbrev pub EndsAs : Outcome → Ending → Type 0
EndsAs (outcome.Finished status) (Done succeeded) = succeeded ≡ (status == 0)
EndsAs (outcome.Stalled waits) (Stalled named circle) = waits ≡ named
EndsAs (outcome.Faulted why) (Faulted named) = why ≡ named
EndsAs _ _ = ⊥

-- Outputs were begun as `placing` says, the files of a plan were opened, and then it was run to
-- this outcome, as the settings have it, with pieces that may be shorter if it has many pipes; and
-- the ending says so. No other file was touched, and no call failed unless the outcome is a fault.
-- The outcome is true of the run. If contents are known, each output holds what it should: it has
-- the answer of the plan to what its inputs held; or, if outputs are held back, all of them or
-- none. Of an input that a head alone reads, no more was taken than its lines. Of all files, known
-- or not, a front was left out only of an input whose readers need just its end.
pub record RunsPlan (contents_known : Bool) (plan : Planned) (settings : Settings)
    (placing : Placing) (old new : FilesShown) (ending : Ending) : Type 0 where
  pub start : FilesShown
  pub begins : BeginsOutputs placing old start
  pub opened : OpenedFiles
  pub then : FilesShown
  pub opens : OpensAll plan opened start then
  pub came_to : Outcome
  pub sound : IsSound came_to → new.failures ≡ old.failures
  pub fitted : Settings
  pub fits : FitsPipes (length plan.pipes) settings fitted
  pub runs : RunsAndPlaces plan opened fitted then new came_to
  pub flows : IsForest (graph_of plan) → IsNoStall came_to
  pub holds : IsTrue contents_known → (is_held placing ≡ false) ⊎ IsFinished came_to
      → HoldsOutputs plan opened start new
  pub answers : IsTrue contents_known
      → LeavesAnswer (is_held placing) plan opened start new came_to
  pub rests : IsTrue contents_known → LeavesRests plan opened start new
  pub fronts : LeavesFronts plan opened.inputs start new
  pub ends : EndsAs came_to ending

-- the script of a text has this plan
pub record HasPlan (text : List ℕ) (plan : Planned) : Type 0 where
  pub script : Script
  pub script_is : script_of text ≡ Some script
  pub is_plan : IsPlanOf script plan

-- the ending is not that of a run that stalled
abbrev pub IsUnstalled : Ending → Type 0
IsUnstalled (Done succeeded) = Unit {0}
IsUnstalled (Stalled waits circle) = ⊥
IsUnstalled (Faulted why) = Unit {0}

-- The script of a text has a plan, and that was run as the settings have it. If the run is strict,
-- no operand is missing. If the script makes no FIFO, it did not stall.
pub record RunsScript (contents_known : Bool) (text : List ℕ) (settings : Settings) (strict : Bool)
    (placing : Placing) (old new : FilesShown) (ending : Ending) : Type 0 where
  pub plan : Planned
  pub has_plan : HasPlan text plan
  pub runs : RunsPlan contents_known plan settings placing old new ending
  pub none_missing : IsTrue strict → missing_places runs.opened.inputs ≡ []
  pub never_stalls : (script : Script) → script_of text ≡ Some script
      → script.fifos ≡ [] → IsUnstalled ending

-- Why a text has no plan: it is no script, or the script has no plan; or memory was refused.
abbrev pub IsUnplanned : List ℕ → Refusal → Type 0
IsUnplanned text (refusal.Text fault) = IsRefusal text fault (script_of text)
IsUnplanned text (refusal.Plan fault) = (script : Script) × (script_of text ≡ Some script)
    × MeetsFault script fault
IsUnplanned text _ = ⊥

-- Why nothing was run of a text: it is no script, or the script has no plan; or not all files of the
-- plan, for a strict run also those of operands, and that of the statistics were opened; or memory
-- was refused. If it has no plan, no file was touched. If contents are known, so is what every file
-- holds after openings that failed. If outputs were to be held back, the file of each name holds
-- what it held.
abbrev pub IsCause : Bool → ScriptFrom → List ℕ → Bool → Placing → Option (Bor Text) → FilesShown
    → FilesShown → Refusal → Type 0
IsCause contents_known script text strict placing stats_to old new why =
    (IsUnplanned text why × (new ≡ old))
    ⊎ ((plan : Planned) × HasPlan text plan
    × FailsOpening contents_known script strict placing stats_to plan old new why
    × (is_held placing ≡ true → KeepsFiles old new))

-- The text of a script was given, and then the script was run as the settings have it, and so it
-- ended. The file that is named for the statistics is none of the script's.
pub record RunsText (contents_known : Bool) (script : ScriptFrom) (settings : Settings)
    (strict : Bool) (placing : Placing) (stats_to : Option (Bor Text)) (old new : FilesShown)
    (ending : Ending) : Type 0 where
  pub text : List ℕ
  pub then : FilesShown
  pub given : IsGiven script text old then
  pub runs : RunsScript contents_known text settings strict placing then new ending
  pub apart : IsApart stats_to script runs.plan

-- the standard output could not be opened
abbrev pub IsOutputRefused : FilesShown → FilesShown → Type 0
IsOutputRefused old new = Refuses (opening.Output out_names.Standard None) old new

-- Why a text was not printed: memory was refused, and nothing was opened; or the standard output
-- could not be opened.
abbrev pub IsUnprinted : FilesShown → FilesShown → Refusal → Type 0
IsUnprinted old new why = ((why ≡ refusal.Opening not_opened.NoMemory) × OpensNothing old new)
    ⊎ ((why ≡ refusal.Opening (not_opened.OutputNotOpened out_names.Standard))
    × IsOutputRefused old new)

-- This text was printed, and no write failed; or a write failed, and a first part of it was printed.
-- The standard output was opened, and nothing else; no other output was written to. If contents are
-- known, every file holds what it held.
pub record PrintsText (contents_known : Bool) (text : List ℕ) (old new : FilesShown)
    (ending : Ending) : Type 0 where
  pub file : ℕ
  pub openings : new.openings ≡ old.openings ++ opening.Output out_names.Standard (Some file) ∷ []
  pub inputs : SameLogs old.inputs new.inputs
  pub outputs : OtherLogs file old.outputs new.outputs
  pub contents : IsTrue contents_known → (name : List ℕ)
      → new.contents (FileOf name) ≡ old.contents (FileOf name)
  pub ended : ((ending ≡ Done true) × (new.failures ≡ old.failures)
      × (writes_of new file ≡ text))
      ⊎ ((ending ≡ Faulted (fault.WriteFault out_names.Standard))
      × (new.failures ≡ one_more old.failures) × IsPrefix (writes_of new file) text)

-- some text was printed
abbrev pub PrintsSome : Bool → FilesShown → FilesShown → Ending → Type 0
PrintsSome contents_known old new ending =
    (text : List ℕ) × PrintsText contents_known text old new ending

-- The text of these two scripts in a form. That of one script is the script, and a newline.
abbrev pub IsShardsText : ShardsForm → (map_text combine_text text : List ℕ) → Type 0
IsShardsText Map map_text combine_text text = text ≡ map_text ++ newline ∷ []
IsShardsText Combine map_text combine_text text = text ≡ combine_text ++ newline ∷ []
IsShardsText _ map_text combine_text text = Unit {0}

-- This text may be printed of a plan in a form. If that is shards, the plan has them, and it is
-- their text.
abbrev pub HasForm : Planned → PlanForm → List ℕ → Type 0
HasForm plan (Shards form) text = (map_text combine_text : List ℕ)
    × AreShards plan map_text combine_text × IsShardsText form map_text combine_text text
HasForm plan _ text = Unit {0}

-- The script of a text has a plan, which was read, and what is printed of it has this form. That was
-- printed, and nothing else was opened.
pub record ShowsPlan (contents_known : Bool) (form : PlanForm) (text : List ℕ)
    (read : Option Planned) (old new : FilesShown) (ending : Ending) : Type 0 where
  pub plan : Planned
  pub read_is : read ≡ Some plan
  pub has_plan : HasPlan text plan
  pub printed : List ℕ
  pub has_form : HasForm plan form printed
  pub prints : PrintsText contents_known printed old new ending

-- The text of a script was given, and then its plan was printed in this form, and so it ended.
pub record PrintsPlan (contents_known : Bool) (form : PlanForm) (script : ScriptFrom)
    (read : Option Planned) (old new : FilesShown) (ending : Ending) : Type 0 where
  pub text : List ℕ
  pub then : FilesShown
  pub given : IsGiven script text old then
  pub shows : ShowsPlan contents_known form text read then new ending

-- The text of a script was given, and the script has a plan, which was read. Nothing was printed.
pub record FindsPlan (script : ScriptFrom) (read : Option Planned) (old new : FilesShown)
    (ending : Ending) : Type 0 where
  pub text : List ℕ
  pub plan : Planned
  pub read_is : read ≡ Some plan
  pub given : IsGiven script text old new
  pub has_plan : HasPlan text plan
  pub ended : ending ≡ Done true

-- What was asked for was done, and so it ended: the help, the version or what a fault means was
-- printed, or the plan of the script in its form, or there is one; or the script was run. `read` is
-- the plan of the script, as far as it was read. It was, if the plan is what was asked for.
abbrev pub DoesWith : Bool → Request → (read : Option Planned) → FilesShown → FilesShown → Ending
    → Type 0
DoesWith contents_known (Help text) read old new ending = PrintsSome contents_known old new ending
DoesWith contents_known Version read old new ending = PrintsSome contents_known old new ending
DoesWith contents_known (Explain code explanation) read old new ending =
    PrintsSome contents_known old new ending
DoesWith contents_known Codes read old new ending = PrintsSome contents_known old new ending
DoesWith contents_known (Plan script (Some form) check placing stats_to folder) read old new ending =
    PrintsPlan contents_known form script read old new ending
DoesWith contents_known (Plan script None check placing stats_to folder) read old new ending =
    FindsPlan script read old new ending
DoesWith contents_known
    (Run script settings strict placing progress stats stats_to quiet_pipe folder) read old new ending =
    RunsText contents_known script settings strict placing stats_to old new ending

-- the same, whatever the plan is
abbrev pub Does : Bool → Request → FilesShown → FilesShown → Ending → Type 0
Does contents_known request old new ending =
    (read : Option Planned) × DoesWith contents_known request read old new ending

-- What the words ask for was done, and so it ended.
pub record HasEnded (contents_known : Bool) (words : List Text) (old new : FilesShown)
    (ending : Ending) : Type 0 where
  pub request : Request
  pub asked : AsksFor words request
  pub done : Does contents_known request old new ending

-- This is the exit status of an ending of what the words ask for, or it is 2.
abbrev pub IsStatusOfEnding : Bool → List Text → FilesShown → FilesShown → ℕ → Type 0
IsStatusOfEnding contents_known words old new status = (status ≡ 2)
    ⊎ ((ending : Ending) × (status ≡ status_of ending)
    × HasEnded contents_known words old new ending)

-- Why a text has no shards, which were asked for: its script has a plan, and no shards for this
-- fault.
pub record IsWithoutShards (form : PlanForm) (text : List ℕ) (why : Refusal) : Type 0 where
  pub shards : ShardsForm
  pub asked : form ≡ Shards shards
  pub fault : ShardsFault
  pub refused : why ≡ refusal.Shards fault
  pub script : Script
  pub script_is : script_of text ≡ Some script
  pub plan : Planned
  pub is_plan : IsPlanOf script plan
  pub none : HasNoShards script plan fault

-- Why the plan of a text was not printed in this form: there is none, or it has no shards, and no
-- file was touched; or it could not be printed.
abbrev pub IsNoShowing : PlanForm → List ℕ → FilesShown → FilesShown → Refusal → Type 0
IsNoShowing form text old new why =
    ((IsUnplanned text why ⊎ IsWithoutShards form text why) × (new ≡ old))
    ⊎ IsUnprinted old new why

-- The text of a script was given, and this is why its plan was not printed in this form.
pub record IsUnshown (form : PlanForm) (script : ScriptFrom) (old new : FilesShown)
    (why : Refusal) : Type 0 where
  pub text : List ℕ
  pub then : FilesShown
  pub given : IsGiven script text old then
  pub unshown : IsNoShowing form text then new why

-- The text of a script was given, and this is why it has no plan. No other file was touched.
pub record IsWithoutPlan (script : ScriptFrom) (old new : FilesShown)
    (why : Refusal) : Type 0 where
  pub text : List ℕ
  pub given : IsGiven script text old new
  pub unplanned : IsUnplanned text why

-- The text of a script was given, and this is why it was not run.
pub record IsUnrun (contents_known : Bool) (script : ScriptFrom) (strict : Bool)
    (placing : Placing) (stats_to : Option (Bor Text)) (old new : FilesShown)
    (why : Refusal) : Type 0 where
  pub text : List ℕ
  pub then : FilesShown
  pub given : IsGiven script text old then
  pub unrun : IsCause contents_known script text strict placing stats_to then new why

-- Why a script was not run, strictly or not: its text was not given, or this is why that was not
-- run.
abbrev pub IsNotRun : Bool → ScriptFrom → Bool → Placing → Option (Bor Text) → FilesShown
    → FilesShown → Refusal → Type 0
IsNotRun contents_known script strict placing stats_to old new why = IsNotGiven script old new why
    ⊎ IsUnrun contents_known script strict placing stats_to old new why

-- Why what was asked for was not begun.
abbrev pub IsUndone : Bool → Request → FilesShown → FilesShown → Refusal → Type 0
IsUndone contents_known (Help text) old new why = IsUnprinted old new why
IsUndone contents_known Version old new why = IsUnprinted old new why
IsUndone contents_known (Explain code explanation) old new why = IsUnprinted old new why
IsUndone contents_known Codes old new why = IsUnprinted old new why
IsUndone contents_known (Plan script (Some form) check placing stats_to folder) old new why =
    IsNotGiven script old new why ⊎ IsUnshown form script old new why
IsUndone contents_known (Plan script None check placing stats_to folder) old new why =
    IsNotGiven script old new why ⊎ IsWithoutPlan script old new why
IsUndone contents_known
    (Run script settings strict placing progress stats stats_to quiet_pipe folder) old new why =
    IsNotRun contents_known script strict placing stats_to old new why

-- the words ask for nothing, and no file was touched
abbrev pub IsMisused : List Text → FilesShown → FilesShown → Refusal → Type 0
IsMisused words old new why = (misuse : Misuse) × (why ≡ refusal.Words misuse)
    × IsMisuse words misuse × (new ≡ old)

-- Why nothing was run: the words ask for nothing, or what they ask for was not begun.
abbrev pub IsRefused : Bool → List Text → FilesShown → FilesShown → Refusal → Type 0
IsRefused contents_known words old new why = IsMisused words old new why
    ⊎ ((request : Request) × AsksFor words request × IsUndone contents_known request old new why)
