-- The files that `--check` looks at, and what it finds.
--
-- An open fails if the file is not there, or may not be read or written as it is meant to be
-- (POSIX.1-2017 XSH open, ERRORS).
use Rattle.std.specs.Prelude.{◌≡◌, ◌≢◌, ℕ, Bool, true, false, ◌&&◌, not, List, ◌∷◌, [], ◌++◌, map}
use Rattle.std.specs.Prelude.{Option, Some, None, IfSome}
use Rattle.std.specs.Borrow.{Bor}
use Rattle.std.specs.List.{list_all}
use Rattle.command_line.specs.Words.{bytes_of_text}
use Rattle.command_line.specs.declared.request.Request.{Request}
use Rattle.command_line.specs.declared.request.Request.TheVariants.{Plan}
use Rattle.command_line.specs.declared.request.ScriptFrom.{ScriptFrom}
use Rattle.planner.specs.Planned.{Planned}
use Rattle.planner.specs.declared.plan.InOpening.{InOpening}
use Rattle.planner.specs.declared.plan.OutOpening.{OutOpening}
use Rattle.plrun.specs.declared.looks.AskedCheck.{AskedCheck}
use Rattle.plrun.specs.declared.looks.Found.{Found}
use Rattle.plrun.specs.declared.looks.Found.TheVariants.{All, NotAll, NoMemory}
use Rattle.program.specs.Reports.{is_taken}
use Rattle.run_types.specs.declared.names.InName.{InName}
use Rattle.run_types.specs.declared.names.OutName.{OutName}
use Rattle.run_types.specs.declared.names.OutName.TheVariants as out_names
use Rattle.run_types.specs.declared.placing.Placing.{Placing}

-- a file that a run would open: an input of this name; or an output of this name, which would get
-- what is written to it at this moment
pub data RunFile : Type 0 where
  Input : InName → RunFile
  Output : OutName → Placing → RunFile

-- a look at a file: whether it can be opened now
pub record Look : Type 0 where
  pub file : RunFile
  pub opens : Bool

-- the look at this file, with this result
abbrev pub look_at : RunFile → Bool → Look
look_at file opens = record { file = file; opens = opens }

-- the file of the statistics, if one is named
abbrev pub report_file : Placing → Option (Bor (List ℕ)) → List RunFile
report_file placing None = []
report_file placing (Some name) =
    Output (out_names.File (bytes_of_text name.now) false) placing ∷ []

-- the files of a plan: its inputs, and then its outputs
abbrev pub plan_files : Placing → Planned → List RunFile
plan_files placing plan = map (λ (o : InOpening). Input o.name) plan.inputs
    ++ map (λ (o : OutOpening). Output o.name placing) plan.outputs

-- the files that are looked at, in order: those of the plan, and that of the statistics
abbrev pub checked_files : AskedCheck → Planned → List RunFile
checked_files asked plan = plan_files asked.placing plan ++ report_file asked.placing asked.report

-- whether the file of the statistics is that of the script, or one of its plan
abbrev pub is_report_taken : Option (Bor (List ℕ)) → ScriptFrom → Planned → Bool
is_report_taken None script plan = false
is_report_taken (Some name) script plan = is_taken (bytes_of_text name.now) script plan

-- each of these files can be opened
abbrev pub all_open : List Look → Bool
all_open looks = list_all (λ (l : Look). l.opens) looks

-- These looks were made after those that were made before, if those are known.
abbrev pub AddsLooks : (before : Option (List Look)) → List Look → (after : Option (List Look))
    → Type 0
AddsLooks before looks after = IfSome before (λ made. after ≡ Some (made ++ looks))

-- Each file was looked at, in order. `all` says whether each can be opened, and that of the
-- statistics is none of the others.
pub record LooksThrough (asked : AskedCheck) (plan : Planned) (before after : Option (List Look))
    (all : Bool) : Type 0 where
  pub looks : List Look
  pub files : map (λ (l : Look). l.file) looks ≡ checked_files asked plan
  pub added : AddsLooks before looks after
  pub found : all ≡ (all_open looks && not (is_report_taken asked.report asked.script plan))

-- what was found by a look at the files of a plan, unless memory was refused
abbrev pub IsFound : AskedCheck → Planned → (before after : Option (List Look)) → Found → Type 0
IsFound asked plan before after All = LooksThrough asked plan before after true
IsFound asked plan before after NotAll = LooksThrough asked plan before after false
IsFound asked plan before after NoMemory = Unit {0}

-- Nothing was looked at, so nothing is missing.
abbrev pub IsUnlooked : (before after : Option (List Look)) → Found → Type 0
IsUnlooked before after found = (found ≡ All) × (after ≡ before)

-- The files of this plan were looked at if that is asked for, and if the exit status is 0 without it.
pub record FindsFiles (check : Option AskedCheck) (plan : Option Planned) (status : ℕ)
    (before after : Option (List Look)) (found : Found) : Type 0 where
  pub looked : (asked : AskedCheck) (p : Planned) → check ≡ Some asked → plan ≡ Some p → status ≡ 0
      → IsFound asked p before after found
  pub unasked : check ≡ None → IsUnlooked before after found
  pub ended : status ≢ 0 → IsUnlooked before after found

-- the exit status after this was found: 2 if a file cannot be opened
abbrev pub found_status : Found → ℕ → ℕ
found_status All status = status
found_status NotAll status = 2
found_status NoMemory status = 2

-- the look that is asked for if `--check` is set
abbrev pub asked_check : (check : Bool) → ScriptFrom → Placing → Option (Bor (List ℕ)) → Option AskedCheck
asked_check false script placing report = None
asked_check true script placing report =
    Some (record { script = script; placing = placing; report = report })

-- the look that a request asks for
abbrev pub check_of : Request → Option AskedCheck
check_of (Plan script form check placing stats_to folder) = asked_check check script placing stats_to
check_of _ = None
