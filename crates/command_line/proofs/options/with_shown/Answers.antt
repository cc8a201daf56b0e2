use Rattle.std.proofs.Common.{refl}
use Rattle.clap.specs.Words.{app_of, with_rule}
use Rattle.command_line.specs.CommandLine.{hints_rule, progress_rule, stats_rule, stats_to_rule}
use Rattle.command_line.proofs.lemmas.Rules.{grown, grown_if}
use Rattle.command_line.proofs.options.with_shown.Goals as goal

pub returns : goal.returns
returns c =
    let first = app_of c.args.command in
    let second = with_rule first progress_rule in
    let third = with_rule second stats_rule in
    let last = with_rule third stats_to_rule in
    let one = grown first progress_rule c.args.command c.named_argument.result c.in_ok-arg.field-0
    refl c.named_argument.ensures c.in_ok-arg.ensures in
    let two = grown second stats_rule c.in_ok-arg.field-0 c.named_argument-2.result
    c.in_ok-arg-2.field-0 one c.named_argument-2.ensures c.in_ok-arg-2.ensures in
    let three = grown third stats_to_rule c.in_ok-arg-2.field-0 c.named_argument-3.result
    c.in_ok-arg-3.field-0 two c.named_argument-3.ensures c.in_ok-arg-3.ensures in
    grown_if last hints_rule c.in_ok-arg-3.field-0 c.named_argument-4.result c.arg-4.result three
    c.named_argument-4.ensures c.arg-4.ensures
