use Rattle.std.proofs.Common.{codes}
use Rattle.clap.specs.Words.{new_rule}
use Rattle.command_line.proofs.lemmas.Rules.{IsReadBy, helped, lettered, valued}
use Rattle.command_line.proofs.options.text_argument.Goals as goal

pub returns : goal.returns
returns c =
    let new : IsReadBy (new_rule (codes "TEXT")) c.new.result =
    record { rule = c.new.ensures.rule; own = c.new.ensures.optional.1 } in
    let short = lettered new c.short.ensures in
    let value_name = valued short c.value_name.ensures in
    let help = helped value_name c.help.ensures in
    (help.rule, help.own)
