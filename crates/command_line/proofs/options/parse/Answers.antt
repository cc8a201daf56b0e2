use Rattle.std.proofs.Common.{map}
use Rattle.std.specs.contracts.prelude.RefStrAsStr.TheImpl.{text-value}
use Rattle.clap.specs.Words.{app_of}
use Rattle.command_line.proofs.lemmas.Given.{faults_given, rows_given}
use Rattle.command_line.proofs.options.parse.Goals as goal

pub returns-clause-rows : goal.returns-clause-rows
returns-clause-rows c =
    rows_given (app_of c.in_ok-command_line.field-0)
    (map text-value.it c.args.words.now) c.try_get_matches_from.result
    c.in_ok-command_line.ensures c.try_get_matches_from.ensures.matches
    c.try_get_matches_from.ensures.kinds

pub returns-clause-faults : goal.returns-clause-faults
returns-clause-faults c =
    faults_given (app_of c.in_ok-command_line.field-0)
    (map text-value.it c.args.words.now) c.try_get_matches_from.result
    c.in_ok-command_line.ensures c.try_get_matches_from.ensures.kinds
