-- Why words ask for nothing.
use Rattle.std.proofs.Common.{◌≡◌, List, [], Result, Ok, Err, subst}
use Rattle.std.specs.Prelude.{IfErr}
use Rattle.clap.specs.Words.{Row, Text}
use Rattle.command_line.specs.CommandLine.{faults_in, rows_in}
use Rattle.command_line.proofs.lemmas.Order.{comes_first}
use Rattle.command_line.specs.Requests.{IsMisuse, IsMisusedBy}
use Rattle.command_line.specs.declared.misuse.Misuse.{Misuse}
use Rattle.command_line.specs.declared.misuse.Misuse.TheVariants.{Words, MaxCapacityBelowCapacity}
use Rattle.command_line.specs.declared.misuse.Misuse.TheVariants.{BytesBelowBlock, NotOneScript}
use Rattle.command_line.specs.declared.misuse.Misuse.TheVariants.{NoSuchForm, NoSuchShards}
use Rattle.command_line.specs.declared.misuse.Misuse.TheVariants.{TwoForms, NoSuchProgress}
use Rattle.command_line.specs.declared.misuse.Misuse.TheVariants.{NoSuchStats, NoSuchHints}
use Rattle.command_line.specs.declared.misuse.Misuse.TheVariants.{NoSuchAtomic, NoSuchCode, NoSuchStrict}

-- words that were read ask for nothing, for a cause that is not of the library
misused : (words : List Text) (why : Misuse) → faults_in words ≡ []
    → IsMisusedBy (rows_in words) why → IsMisuse words why
misused words (Words error) none by = absurd by.1
misused words MaxCapacityBelowCapacity none by =
    (none, by, comes_first (rows_in words) MaxCapacityBelowCapacity by)
misused words BytesBelowBlock none by = (none, by, comes_first (rows_in words) BytesBelowBlock by)
misused words NotOneScript none by = (none, by, comes_first (rows_in words) NotOneScript by)
misused words NoSuchForm none by = (none, by, comes_first (rows_in words) NoSuchForm by)
misused words NoSuchShards none by = (none, by, comes_first (rows_in words) NoSuchShards by)
misused words TwoForms none by = (none, by, comes_first (rows_in words) TwoForms by)
misused words NoSuchProgress none by = (none, by, comes_first (rows_in words) NoSuchProgress by)
misused words NoSuchStats none by = (none, by, comes_first (rows_in words) NoSuchStats by)
misused words NoSuchHints none by = (none, by, comes_first (rows_in words) NoSuchHints by)
misused words NoSuchAtomic none by = (none, by, comes_first (rows_in words) NoSuchAtomic by)
misused words NoSuchStrict none by = (none, by, comes_first (rows_in words) NoSuchStrict by)
misused words NoSuchCode none by = (none, by, comes_first (rows_in words) NoSuchCode by)

-- the same, by the rows that were read
pub misused_if : {T : Type 0} (words : List Text) (rows : List Row) (result : Result T Misuse)
    → (faults_in words ≡ []) × (rows ≡ rows_in words) → IfErr result (IsMisusedBy rows)
    → IfErr result (IsMisuse words)
misused_if words rows (Ok request) read by = tt
misused_if words rows (Err why) read by =
    misused words why read.0 (subst (λ r. IsMisusedBy r why) read.1 by)
