use Rattle.std.proofs.Common.{refl}
use Rattle.clap.specs.Words.{app_of, with_rule}
use Rattle.command_line.specs.CommandLine.{explain_rule, version_rule}
use Rattle.command_line.proofs.lemmas.Rules.{grown, grown_if}
use Rattle.command_line.proofs.options.with_questions.Goals as goal

pub returns : goal.returns
returns c =
    let first = app_of c.args.command in
    let last = with_rule first explain_rule in
    let one = grown first explain_rule c.args.command c.named_argument.result c.in_ok-arg.field-0
    refl c.named_argument.ensures c.in_ok-arg.ensures in
    grown_if last version_rule c.in_ok-arg.field-0 c.version_argument.result c.arg-2.result one
    c.version_argument.ensures c.arg-2.ensures
