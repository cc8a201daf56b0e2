-- What the words of a command line ask for.
--
-- The commands of a shell come from the operand of -c or from a file (POSIX.1-2017 XCU sh, OPTIONS
-- and OPERANDS).
use Rattle.std.specs.Prelude.{◌≡◌, ◌≢◌, ◌⊎◌, Bool, true, false, List, [], ◌∷◌, Option, Some, None}
use Rattle.std.specs.Prelude.{◌||◌, codes, is_some, option_and_then, option_map}
use Rattle.std.specs.Borrow.{Bor}
use Rattle.clap.specs.Words.{HasKind, IsAmong, Row, Text, first_of, kind_of, one_of}
use Rattle.clap.specs.declared.error.kind.ErrorKind.TheVariants as kind
use Rattle.run_types.specs.Placings.{is_held}
use Rattle.run_types.specs.declared.placing.Placing.{Placing}
use Rattle.run_types.specs.declared.placing.Placing.TheVariants.{AsWritten, AtEnd, AtEndStored}
use Rattle.command_line.specs.CommandLine.{faults_in, rows_in}
use Rattle.command_line.specs.Faults.{names_a_fault, names_all, names_fault}
use Rattle.command_line.specs.Numbers.{GivesBytesBelowBlock, GivesMaxCapacityBelowCapacity}
use Rattle.command_line.specs.Numbers.{GivesSettings, HasBelow, KnowsCapacities, KnowsSettings}
use Rattle.command_line.specs.Shown.{GivesNoSuchHints, GivesNoSuchProgress, GivesNoSuchStats}
use Rattle.command_line.specs.Shown.{GivesProgress, GivesStats, KnowsHints, KnowsProgress}
use Rattle.command_line.specs.Shown.{KnowsShown, KnowsStats}
use Rattle.command_line.specs.PlanForms.{form_named}
use Rattle.command_line.specs.ShardsForms.{shards_named}
use Rattle.command_line.specs.PlacingNames.{placing_named}
use Rattle.command_line.specs.StrictNames.{strict_named}
use Rattle.command_line.specs.declared.misuse.Misuse.{Misuse}
use Rattle.command_line.specs.declared.misuse.Misuse.TheVariants.{Words, MaxCapacityBelowCapacity}
use Rattle.command_line.specs.declared.misuse.Misuse.TheVariants.{BytesBelowBlock, NotOneScript}
use Rattle.command_line.specs.declared.misuse.Misuse.TheVariants.{NoSuchForm, NoSuchShards}
use Rattle.command_line.specs.declared.misuse.Misuse.TheVariants.{TwoForms}
use Rattle.command_line.specs.declared.misuse.Misuse.TheVariants.{NoSuchProgress, NoSuchCode}
use Rattle.command_line.specs.declared.misuse.Misuse.TheVariants.{NoSuchStats, NoSuchHints}
use Rattle.command_line.specs.declared.misuse.Misuse.TheVariants.{NoSuchAtomic, NoSuchStrict}
use Rattle.command_line.specs.declared.request.Request.{Request}
use Rattle.command_line.specs.declared.request.Request.TheVariants.{Help, Version, Explain, Codes}
use Rattle.command_line.specs.declared.request.Request.TheVariants.{Plan, Run}
use Rattle.command_line.specs.declared.request.ScriptFrom.{ScriptFrom}
use Rattle.command_line.specs.declared.request.ScriptFrom.TheVariants as from
use Rattle.command_line.specs.declared.showing.PlanForm.{PlanForm}
use Rattle.command_line.specs.declared.showing.PlanForm.TheVariants.{Dot, Shards}
use Rattle.command_line.specs.declared.showing.ShardsForm.{ShardsForm}

-- the operand of -c, if there is one
abbrev pub text_in : List Row → Option Text
text_in rows = first_of (codes "TEXT") rows

-- the name of the file that holds the script, if there is one
abbrev pub file_in : List Row → Option Text
file_in rows = first_of (codes "SCRIPT") rows

-- the script is given once: as the operand of -c, or by the name of a file
abbrev pub GivesScript : List Row → ScriptFrom → Type 0
GivesScript rows (from.Text text) = (text_in rows ≡ Some text.now) × (file_in rows ≡ None)
GivesScript rows (from.File name) = (text_in rows ≡ None) × (file_in rows ≡ Some name.now)

-- the script is given once, in one of the two ways
abbrev pub KnowsScript : List Row → Type 0
KnowsScript rows = (script : ScriptFrom) × GivesScript rows script

-- no script is given, or two are
abbrev pub GivesNotOneScript : List Row → Type 0
GivesNotOneScript rows = is_some (text_in rows) ≡ is_some (file_in rows)

-- an option that takes no value is there, or it is not
pub record GivesFlag (rows : List Row) (name : Text) (set : Bool) : Type 0 where
  pub there : one_of name rows ≡ Some (codes "true") → set ≡ true
  pub other : one_of name rows ≡ Some (codes "false") → set ≡ false
  pub none : one_of name rows ≡ None → set ≡ false

-- the value of an option is this name, or the option is not given and there is none
abbrev pub GivesName : List Row → Text → Option (Bor Text) → Type 0
GivesName rows option name = first_of option rows ≡ option_map (λ given. given.now) name

-- the name of the form of the plan, if there is one
abbrev pub plan_in : List Row → Option Text
plan_in rows = first_of (codes "plan") rows

-- the plan is asked for in this form, whose name is given, or no name is given
abbrev pub GivesNamedForm : List Row → Option PlanForm → Type 0
GivesNamedForm rows (Some form) = option_and_then form_named (plan_in rows) ≡ Some form
GivesNamedForm rows None = plan_in rows ≡ None

-- the name is that of a form, or none is given
abbrev pub KnowsNamedForm : List Row → Type 0
KnowsNamedForm rows = (form : Option PlanForm) × GivesNamedForm rows form

-- a name is given, and it is that of no form
abbrev pub GivesNoSuchForm : List Row → Type 0
GivesNoSuchForm rows = (is_some (plan_in rows) ≡ true)
    × (option_and_then form_named (plan_in rows) ≡ None)

-- the name of the form of the shards, if there is one
abbrev pub shards_in : List Row → Option Text
shards_in rows = first_of (codes "shards") rows

-- the shards are asked for in this form, whose name is given, or no name is given
abbrev pub GivesShards : List Row → Option ShardsForm → Type 0
GivesShards rows (Some form) = option_and_then shards_named (shards_in rows) ≡ Some form
GivesShards rows None = shards_in rows ≡ None

-- the name is that of a form of the shards, or none is given
abbrev pub KnowsShards : List Row → Type 0
KnowsShards rows = (form : Option ShardsForm) × GivesShards rows form

-- a name is given, and it is that of no form of the shards
abbrev pub GivesNoSuchShards : List Row → Type 0
GivesNoSuchShards rows = (is_some (shards_in rows) ≡ true)
    × (option_and_then shards_named (shards_in rows) ≡ None)

-- the plan is asked for in this form, by its name, or as shards, or in neither way
abbrev pub GivesTextForm : List Row → Option PlanForm → Type 0
GivesTextForm rows form = (GivesNamedForm rows form × (shards_in rows ≡ None))
    ⊎ ((shards : ShardsForm) × (form ≡ Some (Shards shards)) × (plan_in rows ≡ None)
    × GivesShards rows (Some shards))

-- the plan is asked for in this form, by its name, as shards or as a picture, or it is not asked
-- for
abbrev pub GivesForm : List Row → Option PlanForm → Type 0
GivesForm rows form = (GivesTextForm rows form × GivesFlag rows (codes "dot") false)
    ⊎ ((form ≡ Some Dot) × (plan_in rows ≡ None) × (shards_in rows ≡ None)
    × GivesFlag rows (codes "dot") true)

-- the plan is asked for in two ways: by the name of a form and as shards, or in one of these ways
-- and as a picture
abbrev pub GivesTwoForms : List Row → Type 0
GivesTwoForms rows = ((is_some (plan_in rows) ≡ true) × (is_some (shards_in rows) ≡ true))
    ⊎ (((is_some (plan_in rows) || is_some (shards_in rows)) ≡ true)
    × GivesFlag rows (codes "dot") true)

-- the name of the time at which outputs get what is written to them, if there is one
abbrev pub atomic_in : List Row → Option Text
atomic_in rows = first_of (codes "atomic") rows

-- outputs get what is written to them as it is written, and no name is given; or at this time,
-- whose name is given
abbrev pub GivesPlacing : List Row → Placing → Type 0
GivesPlacing rows AsWritten = atomic_in rows ≡ None
GivesPlacing rows AtEnd = option_and_then placing_named (atomic_in rows) ≡ Some AtEnd
GivesPlacing rows AtEndStored = option_and_then placing_named (atomic_in rows) ≡ Some AtEndStored

-- the name is that of a time, or none is given
abbrev pub KnowsPlacing : List Row → Type 0
KnowsPlacing rows = (placing : Placing) × GivesPlacing rows placing

-- a name is given, and it is that of no time
abbrev pub GivesNoSuchAtomic : List Row → Type 0
GivesNoSuchAtomic rows = (is_some (atomic_in rows) ≡ true)
    × (option_and_then placing_named (atomic_in rows) ≡ None)

-- the name that says whether a run is strict, if there is one
abbrev pub strict_in : List Row → Option Text
strict_in rows = first_of (codes "strict") rows

-- Whether a run is strict, whose outputs get what is written to them at this time. The name says
-- so, if one is given. Otherwise the run is strict just if its outputs are held back.
abbrev pub GivesStrict : List Row → Placing → Bool → Type 0
GivesStrict rows placing strict = (option_and_then strict_named (strict_in rows) ≡ Some strict)
    ⊎ ((strict_in rows ≡ None) × (strict ≡ is_held placing))

-- the name says whether a run is strict, or none is given
abbrev pub KnowsStrict : List Row → Type 0
KnowsStrict rows = (strict_in rows ≡ None)
    ⊎ (is_some (option_and_then strict_named (strict_in rows)) ≡ true)

-- a name is given, and it does not say whether a run is strict
abbrev pub GivesNoSuchStrict : List Row → Type 0
GivesNoSuchStrict rows = (is_some (strict_in rows) ≡ true)
    × (option_and_then strict_named (strict_in rows) ≡ None)

-- it is known how a run goes: when its outputs get what is written, and whether it is strict
abbrev pub KnowsHow : List Row → Type 0
KnowsHow rows = KnowsPlacing rows × KnowsStrict rows

-- the code or the name of a fault that is asked about, if there is one
abbrev pub code_in : List Row → Option Text
code_in rows = first_of (codes "explain") rows

-- a fault is asked about by this text, which is its code or its name
abbrev pub GivesCode : List Row → Text → Type 0
GivesCode rows code = (code_in rows ≡ Some code) × (names_a_fault code ≡ true)

-- all faults are asked about, by the word for them
abbrev pub GivesAll : List Row → Type 0
GivesAll rows = (code : Text) × (code_in rows ≡ Some code) × (names_all code ≡ true)

-- a fault is asked about by a text that is the code or the name of none, and not the word for all
abbrev pub GivesNoSuchCode : List Row → Type 0
GivesNoSuchCode rows = (code : Text) × (code_in rows ≡ Some code) × (names_a_fault code ≡ false)
    × (names_all code ≡ false)

-- the program is asked about itself: for its version, for what the code or the name of a fault
-- means, or for what all faults are; or it is not. The explanation is that of the fault.
abbrev pub GivesQuestion : List Row → Option Request → Type 0
GivesQuestion rows (Some Version) = GivesFlag rows (codes "version") true
GivesQuestion rows (Some (Explain code explanation)) = GivesFlag rows (codes "version") false
    × GivesCode rows code.now
    × (names_fault code.now (explanation.code.now, explanation.name.now) ≡ true)
GivesQuestion rows (Some Codes) = GivesFlag rows (codes "version") false × GivesAll rows
GivesQuestion rows (Some _) = ⊥
GivesQuestion rows None = GivesFlag rows (codes "version") false × (code_in rows ≡ None)

-- a script is not to be run: its plan is asked for, or a check of its files, or both
abbrev pub IsUnrun : Option PlanForm → Bool → Type 0
IsUnrun (Some form) check = Unit {0}
IsUnrun None check = check ≡ true

-- What a script is asked for: its plan, or a check of its files; or to be run, strictly or not, its
-- progress and its statistics shown or not, and ended without a line or not if its reader has ended.
-- It is known when its outputs get what is written, in which file its statistics are, if they are
-- in one, and in which folder all names are, if one is given.
abbrev pub GivesJob : List Row → Request → Type 0
GivesJob rows (Plan script form check placing stats_to folder) = GivesScript rows script
    × GivesForm rows form
    × GivesFlag rows (codes "check") check × IsUnrun form check
    × KnowsSettings rows × KnowsShown rows × GivesPlacing rows placing × KnowsStrict rows
    × GivesName rows (codes "stats-to") stats_to × GivesName rows (codes "cd") folder
GivesJob rows (Run script settings strict placing progress stats stats_to quiet_pipe folder) =
    GivesScript rows script
    × GivesForm rows None
    × GivesFlag rows (codes "check") false × GivesSettings rows settings
    × GivesStrict rows placing strict × GivesProgress rows progress
    × GivesStats rows stats × GivesName rows (codes "stats-to") stats_to
    × GivesFlag rows (codes "quiet-pipe") quiet_pipe × KnowsHints rows
    × GivesPlacing rows placing × GivesName rows (codes "cd") folder
GivesJob rows _ = ⊥

-- what the options and operands ask for, if nothing is wrong with the words
abbrev pub IsAskedBy : List Row → Request → Type 0
IsAskedBy rows request = GivesQuestion rows (Some request)
    ⊎ (GivesQuestion rows None × GivesJob rows request)

-- Why a script is asked for nothing. There is a check for each cause, in this order. The cause is
-- the first check that fails, so each one says that those before it pass.
abbrev pub LacksJob : List Row → Misuse → Type 0
LacksJob rows MaxCapacityBelowCapacity = GivesMaxCapacityBelowCapacity rows
LacksJob rows BytesBelowBlock = KnowsCapacities rows × GivesBytesBelowBlock rows
LacksJob rows NotOneScript = KnowsSettings rows × GivesNotOneScript rows
LacksJob rows NoSuchProgress = KnowsSettings rows × KnowsScript rows × GivesNoSuchProgress rows
LacksJob rows NoSuchStats = KnowsSettings rows × KnowsScript rows × KnowsProgress rows
    × GivesNoSuchStats rows
LacksJob rows NoSuchHints = KnowsSettings rows × KnowsScript rows × KnowsProgress rows
    × KnowsStats rows × GivesNoSuchHints rows
LacksJob rows NoSuchAtomic = KnowsSettings rows × KnowsScript rows × KnowsShown rows
    × GivesNoSuchAtomic rows
LacksJob rows NoSuchStrict = KnowsSettings rows × KnowsScript rows × KnowsShown rows
    × KnowsPlacing rows × GivesNoSuchStrict rows
LacksJob rows NoSuchForm = KnowsSettings rows × KnowsScript rows × KnowsShown rows
    × KnowsHow rows × GivesNoSuchForm rows
LacksJob rows NoSuchShards = KnowsSettings rows × KnowsScript rows × KnowsShown rows
    × KnowsHow rows × KnowsNamedForm rows × GivesNoSuchShards rows
LacksJob rows TwoForms = KnowsSettings rows × KnowsScript rows × KnowsShown rows
    × KnowsHow rows × KnowsNamedForm rows × KnowsShards rows × GivesTwoForms rows
LacksJob rows _ = ⊥

-- Why the options and operands ask for nothing: a code or a name is asked about that no fault has,
-- or a script is asked for nothing. The version is asked for in neither case, and no fault in the
-- second.
abbrev pub IsMisusedBy : List Row → Misuse → Type 0
IsMisusedBy rows NoSuchCode = GivesFlag rows (codes "version") false × GivesNoSuchCode rows
IsMisusedBy rows why = GivesQuestion rows None × LacksJob rows why

-- the check for this cause fails
abbrev pub Fails : List Row → Misuse → Type 0
Fails rows NoSuchCode = GivesNoSuchCode rows
Fails rows MaxCapacityBelowCapacity =
    HasBelow rows (codes "max-capacity") 4096 (codes "capacity") 4096
Fails rows BytesBelowBlock = HasBelow rows (codes "bytes") 268435456 (codes "block") 65536
Fails rows NotOneScript = GivesNotOneScript rows
Fails rows NoSuchProgress = GivesNoSuchProgress rows
Fails rows NoSuchStats = GivesNoSuchStats rows
Fails rows NoSuchHints = GivesNoSuchHints rows
Fails rows NoSuchAtomic = GivesNoSuchAtomic rows
Fails rows NoSuchStrict = GivesNoSuchStrict rows
Fails rows NoSuchForm = GivesNoSuchForm rows
Fails rows NoSuchShards = GivesNoSuchShards rows
Fails rows TwoForms = GivesTwoForms rows
Fails rows (Words error) = ⊥

-- the causes, in the order of their checks
abbrev pub the_causes : List Misuse
the_causes = NoSuchCode ∷ MaxCapacityBelowCapacity ∷ BytesBelowBlock ∷ NotOneScript
    ∷ NoSuchProgress ∷ NoSuchStats ∷ NoSuchHints ∷ NoSuchAtomic ∷ NoSuchStrict ∷ NoSuchForm
    ∷ NoSuchShards ∷ TwoForms ∷ []

-- this is one of the causes, and no check before its own fails
abbrev pub ComesFirst : List Row → List Misuse → Misuse → Type 0
ComesFirst rows [] why = ⊥
ComesFirst rows (cause ∷ causes) why = (why ≡ cause)
    ⊎ ((Fails rows cause → ⊥) × ComesFirst rows causes why)

-- What these words ask for. But for the help, nothing is wrong with them.
abbrev pub AsksFor : List Text → Request → Type 0
AsksFor words (Help text) = IsAmong kind.DisplayHelp (faults_in words)
AsksFor words request = (faults_in words ≡ []) × IsAskedBy (rows_in words) request

-- Why these words ask for nothing. An error of the library is one of what is wrong with them and no
-- help, or memory was refused. For any other cause the library finds nothing wrong, and neither the
-- help nor the version is asked for. No earlier check fails.
abbrev pub IsMisuse : List Text → Misuse → Type 0
IsMisuse words (Words error) = HasKind (faults_in words) error × (kind_of error ≢ kind.DisplayHelp)
IsMisuse words why = (faults_in words ≡ []) × IsMisusedBy (rows_in words) why
    × ComesFirst (rows_in words) the_causes why
