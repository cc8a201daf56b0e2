-- The file of the statistics of a run (`--stats-to`): no file that the script names, nor that of the
-- script.
--
-- A name means a file (POSIX.1-2017 XBD 4.13). Names are compared by their bytes here. That two of
-- them mean one file, only the system knows.
use Rattle.std.specs.Prelude.{◌≡◌, ◌⊎◌, ◌||◌, ℕ, Bool, true, false, List, [], ◌∷◌, ◌++◌, Option}
use Rattle.std.specs.Prelude.{Some, None, bytes_eq}
use Rattle.std.specs.Borrow.{Bor}
use Rattle.std.specs.List.{list_any}
use Rattle.clap.specs.Words.{Text}
use Rattle.collector.specs.Files.{FilesShown}
use Rattle.collector.specs.Places.{LeavesOutputs}
use Rattle.command_line.specs.Words.{bytes_of_text}
use Rattle.command_line.specs.declared.request.Request.{Request}
use Rattle.command_line.specs.declared.request.Request.TheVariants.{Run}
use Rattle.command_line.specs.declared.request.ScriptFrom.{ScriptFrom}
use Rattle.command_line.specs.declared.request.ScriptFrom.TheVariants as from
use Rattle.openings.specs.Answers.{OpenedFiles}
use Rattle.openings.specs.Placings.{FailsPlacing, OpensPlacing}
use Rattle.planner.specs.Planned.{Planned}
use Rattle.planner.specs.declared.fault.PlanFault.TheVariants as fault
use Rattle.planner.specs.declared.plan.InOpening.{InOpening}
use Rattle.planner.specs.declared.plan.OutOpening.{OutOpening}
use Rattle.program.specs.declared.ending.Refusal.{Refusal}
use Rattle.program.specs.declared.ending.Refusal.TheVariants as refusal
use Rattle.run_types.specs.declared.names.InName.{InName}
use Rattle.run_types.specs.declared.names.InName.TheVariants as in_names
use Rattle.run_types.specs.declared.names.OutName.{OutName}
use Rattle.run_types.specs.declared.names.OutName.TheVariants as out_names
use Rattle.run_types.specs.declared.placing.Placing.{Placing}

-- an input is opened by this name
abbrev pub is_input : List ℕ → InName → Bool
is_input name in_names.Standard = false
is_input name (in_names.File word) = bytes_eq word name

-- an output is opened by this name
abbrev pub is_output : List ℕ → OutName → Bool
is_output name out_names.Standard = false
is_output name (out_names.File word append) = bytes_eq word name

-- a plan opens the file of this name: for an operand, a redirection or an output
abbrev pub opens_name : List ℕ → Planned → Bool
opens_name name plan = list_any (λ (o : InOpening). is_input name o.name) plan.inputs
    || list_any (λ (o : OutOpening). is_output name o.name) plan.outputs

-- a script is in the file of this name
abbrev pub is_script_in : List ℕ → ScriptFrom → Bool
is_script_in name (from.Text letters) = false
is_script_in name (from.File file) = bytes_eq (bytes_of_text file.now) name

-- the file of this name is that of the script, or one of its plan
abbrev pub is_taken : List ℕ → ScriptFrom → Planned → Bool
is_taken name script plan = is_script_in name script || opens_name name plan

-- the same if the plan of the script is known, or if it is not
abbrev pub is_taken_by : List ℕ → ScriptFrom → Option Planned → Bool
is_taken_by name script (Some plan) = is_taken name script plan
is_taken_by name script None = is_script_in name script

-- The file that is named for the statistics, if one is, is neither that of the script nor one of its
-- plan.
abbrev pub IsApart : Option (Bor Text) → ScriptFrom → Planned → Type 0
IsApart None script plan = Unit {0}
IsApart (Some name) script plan = is_taken (bytes_of_text name.now) script plan ≡ false

-- Why no statistics can be written to the file that is named for them: it is that of the script, or
-- one of its plan; or memory was refused.
abbrev pub IsNotApart : Option (Bor Text) → ScriptFrom → Planned → Refusal → Type 0
IsNotApart to script plan why = (why ≡ refusal.Plan fault.NoMemory)
    ⊎ ((name : Bor Text) × (to ≡ Some name) × (why ≡ refusal.NotApart name)
    × (is_taken (bytes_of_text name.now) script plan ≡ true))

-- a file for the statistics was opened by this name, if one is given, and by no other
abbrev pub OpensReport : Option (Bor Text) → (old new : List (List ℕ)) → Type 0
OpensReport None old new = new ≡ old
OpensReport (Some name) old new = new ≡ old ++ bytes_of_text name.now ∷ []

-- for the statistics nothing was opened, or the file that is named for them
abbrev pub OpensNoOther : Option (Bor Text) → (old new : List (List ℕ)) → Type 0
OpensNoOther None old new = new ≡ old
OpensNoOther (Some name) old new = (new ≡ old) ⊎ (new ≡ old ++ bytes_of_text name.now ∷ [])

-- the file that is named for the statistics was not opened
abbrev pub IsNotReported : Option (Bor Text) → (old new : List (List ℕ)) → Refusal → Type 0
IsNotReported to old new why = (new ≡ old)
    × ((name : Bor Text) × (to ≡ Some name) × (why ≡ refusal.NotReported name))

-- For the statistics nothing was opened, or the file that is named for them. That is neither the
-- file of the script nor one of its plan, if that is known.
abbrev pub MayOpenReport : Option (Bor Text) → ScriptFrom → Option Planned
    → (old new : List (List ℕ)) → Type 0
MayOpenReport None script plan old new = new ≡ old
MayOpenReport (Some name) script plan old new = (new ≡ old)
    ⊎ ((is_taken_by (bytes_of_text name.now) script plan ≡ false)
    × (new ≡ old ++ bytes_of_text name.now ∷ []))

-- the file that a request names for the statistics of its run, if it names one
abbrev pub report_of : Request → Option (Bor Text)
report_of (Run script settings strict placing progress stats stats_to quiet_pipe folder) = stats_to
report_of _ = None

-- what a request that was refused opened for the statistics; the plan of its script is this, if it
-- is known
abbrev pub MayReport : Request → Option Planned → (old new : List (List ℕ)) → Type 0
MayReport (Run script settings strict placing progress stats stats_to quiet_pipe folder) plan old
    new = MayOpenReport stats_to script plan old new
MayReport _ plan old new = new ≡ old

-- Every file of a plan was opened as `placing` says, and then the outputs that were held back were
-- left.
pub record OpensInVain (known strict : Bool) (placing : Placing) (plan : Planned)
    (old new : FilesShown) : Type 0 where
  pub opened : OpenedFiles
  pub then : FilesShown
  pub opens : OpensPlacing known strict placing plan old then opened
  pub leaves : LeavesOutputs then new

-- Why the files of a plan, and that of the statistics, were not all opened: a file of the plan could
-- not be opened; or the file of the statistics is that of the script or one of the plan, and nothing
-- was opened; or it could not be opened after those of the plan; or memory was refused.
abbrev pub FailsOpening : Bool → ScriptFrom → Bool → Placing → Option (Bor Text) → Planned
    → FilesShown → FilesShown → Refusal → Type 0
FailsOpening known script strict placing to plan old new (refusal.Opening fault) =
    FailsPlacing known strict placing plan old new fault
FailsOpening known script strict placing to plan old new (refusal.NotReported name) =
    (to ≡ Some name) × OpensInVain known strict placing plan old new
FailsOpening known script strict placing to plan old new why =
    IsNotApart to script plan why × (new ≡ old)
