use Rattle.std.proofs.Common.{◌∙◌, ap, refl}
use Rattle.clap.specs.Words.{app_of, with_rule}
use Rattle.command_line.specs.CommandLine.{block_rule, turns_rule, with_pipes, workers_rule}
use Rattle.command_line.proofs.lemmas.Rules.{grown, grown_if}
use Rattle.command_line.proofs.options.with_numbers.Goals as goal

pub returns : goal.returns
returns c =
    let first = app_of c.args.command in
    let second = with_pipes (with_rule first workers_rule) in
    let last = with_rule second block_rule in
    let one = grown first workers_rule c.args.command c.number_argument.result
    c.in_ok-threaded.threaded refl c.number_argument.ensures c.in_ok-threaded.ensures in
    let two = c.in_ok-with_pipes.ensures ∙ ap with_pipes one in
    let three = grown second block_rule c.in_ok-with_pipes.field-0 c.number_argument-2.result
    c.in_ok-arg.field-0 two c.number_argument-2.ensures c.in_ok-arg.ensures in
    grown_if last turns_rule c.in_ok-arg.field-0 c.number_argument-3.result c.arg-3.result three
    c.number_argument-3.ensures c.arg-3.ensures
