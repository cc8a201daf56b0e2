use Rattle.std.proofs.Common.{refl}
use Rattle.clap.specs.Words.{app_of, with_rule}
use Rattle.command_line.specs.CommandLine.{atomic_rule, quiet_pipe_rule, strict_rule}
use Rattle.command_line.proofs.lemmas.Rules.{grown, grown_if}
use Rattle.command_line.proofs.options.with_runs.Goals as goal

pub returns : goal.returns
returns c =
    let first = app_of c.args.command in
    let second = with_rule first strict_rule in
    let last = with_rule second quiet_pipe_rule in
    let one = grown first strict_rule c.args.command c.named_argument.result c.in_ok-arg.field-0 refl
    c.named_argument.ensures c.in_ok-arg.ensures in
    let two = grown second quiet_pipe_rule c.in_ok-arg.field-0 c.flag_argument.result
    c.in_ok-arg-2.field-0 one c.flag_argument.ensures c.in_ok-arg-2.ensures in
    grown_if last atomic_rule c.in_ok-arg-2.field-0 c.named_argument-2.result c.arg-3.result two
    c.named_argument-2.ensures c.arg-3.ensures
