use Rattle.command_line.proofs.lemmas.Rules.{IsReadBy, lettered}
use Rattle.command_line.specs.CommandLine.{flag_rule}
use Rattle.std.proofs.Common.{codes}
use Rattle.command_line.proofs.options.version_argument.Goals as goal

pub returns : goal.returns
returns c =
    let flag : IsReadBy (flag_rule (codes "version")) c.flag_argument.result =
    record { rule = c.flag_argument.ensures.0; own = c.flag_argument.ensures.1 } in
    let short = lettered flag c.short.ensures in
    (short.rule, short.own)
