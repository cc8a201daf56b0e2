use Rattle.std.proofs.Common.{refl}
use Rattle.clap.specs.Words.{app_of, with_rule}
use Rattle.command_line.specs.CommandLine.{bytes_rule, capacity_rule, max_capacity_rule}
use Rattle.command_line.proofs.lemmas.Rules.{grown, grown_if}
use Rattle.command_line.proofs.options.with_pipes.Goals as goal

pub returns : goal.returns
returns c =
    let first = app_of c.args.command in
    let second = with_rule first capacity_rule in
    let last = with_rule second max_capacity_rule in
    let one = grown first capacity_rule c.args.command c.number_argument.result c.in_ok-arg.field-0
    refl c.number_argument.ensures c.in_ok-arg.ensures in
    let two = grown second max_capacity_rule c.in_ok-arg.field-0 c.number_argument-2.result
    c.in_ok-arg-2.field-0 one c.number_argument-2.ensures c.in_ok-arg-2.ensures in
    grown_if last bytes_rule c.in_ok-arg-2.field-0 c.number_argument-3.result c.arg-3.result two
    c.number_argument-3.ensures c.arg-3.ensures
