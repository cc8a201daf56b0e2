use Rattle.std.proofs.Common.{refl}
use Rattle.clap.specs.Words.{app_of, with_rule}
use Rattle.command_line.specs.CommandLine.{check_rule, dot_rule, plan_rule, shards_rule}
use Rattle.command_line.proofs.lemmas.Rules.{grown, grown_if}
use Rattle.command_line.proofs.options.with_plans.Goals as goal

pub returns : goal.returns
returns c =
    let first = app_of c.args.command in
    let second = with_rule first plan_rule in
    let third = with_rule second dot_rule in
    let last = with_rule third shards_rule in
    let one = grown first plan_rule c.args.command c.named_argument.result c.in_ok-arg.field-0 refl
    c.named_argument.ensures c.in_ok-arg.ensures in
    let two = grown second dot_rule c.in_ok-arg.field-0 c.flag_argument.result c.in_ok-arg-2.field-0
    one c.flag_argument.ensures c.in_ok-arg-2.ensures in
    let three = grown third shards_rule c.in_ok-arg-2.field-0 c.named_argument-2.result
    c.in_ok-arg-3.field-0 two c.named_argument-2.ensures c.in_ok-arg-3.ensures in
    grown_if last check_rule c.in_ok-arg-3.field-0 c.flag_argument-2.result c.arg-4.result three
    c.flag_argument-2.ensures c.arg-4.ensures
