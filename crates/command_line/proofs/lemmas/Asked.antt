-- What words ask for.
use Rattle.std.proofs.Common.{◌≡◌, List, [], Result, Ok, Err, inl, inr, subst}
use Rattle.std.specs.Prelude.{IfOk}
use Rattle.clap.specs.Words.{Row, Text}
use Rattle.command_line.specs.CommandLine.{faults_in, rows_in}
use Rattle.command_line.specs.Requests.{AsksFor, IsAskedBy}
use Rattle.command_line.specs.declared.misuse.Misuse.{Misuse}
use Rattle.command_line.specs.declared.request.Request.{Request}
use Rattle.command_line.specs.declared.request.Request.TheVariants.{Help, Version, Explain, Codes}
use Rattle.command_line.specs.declared.request.Request.TheVariants.{Plan, Run}

-- words with which nothing is wrong ask for what their options and operands do
asked : (words : List Text) (request : Request) → faults_in words ≡ []
    → IsAskedBy (rows_in words) request → AsksFor words request
asked words (Help text) none (inl bad) = absurd bad
asked words (Help text) none (inr two) = absurd two.1
asked words Version none by = (none, by)
asked words (Explain code explanation) none by = (none, by)
asked words Codes none by = (none, by)
asked words (Plan script form check placing stats_to folder) none by = (none, by)
asked words (Run script settings strict placing progress stats stats_to quiet_pipe folder) none by =
    (none, by)

-- the same, by the rows that were read
pub asked_if : (words : List Text) (rows : List Row) (result : Result Request Misuse)
    → (faults_in words ≡ []) × (rows ≡ rows_in words) → IfOk result (IsAskedBy rows)
    → IfOk result (AsksFor words)
asked_if words rows (Err why) read by = tt
asked_if words rows (Ok request) read by =
    asked words request read.0 (subst (λ r. IsAskedBy r request) read.1 by)
