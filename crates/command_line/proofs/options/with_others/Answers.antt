use Rattle.std.proofs.Common.{◌∙◌, ap}
use Rattle.clap.specs.Words.{app_of, with_rule}
use Rattle.command_line.specs.CommandLine.{cd_rule, script_rule, with_plans, with_runs, with_shown}
use Rattle.command_line.proofs.lemmas.Rules.{grown, grown_if}
use Rattle.command_line.proofs.options.with_others.Goals as goal

pub returns : goal.returns
returns c =
    let first = with_shown (with_runs (with_plans (app_of c.args.command))) in
    let last = with_rule first cd_rule in
    let runs = c.in_ok-command-2.ensures ∙ ap with_runs c.in_ok-command.ensures in
    let shown = c.in_ok-with_shown.ensures ∙ ap with_shown runs in
    let one = grown first cd_rule c.in_ok-with_shown.field-0 c.named_argument.result
    c.in_ok-arg.field-0 shown c.named_argument.ensures c.in_ok-arg.ensures in
    grown_if last script_rule c.in_ok-arg.field-0 c.script_argument.result c.arg-2.result one
    c.script_argument.ensures c.arg-2.ensures
