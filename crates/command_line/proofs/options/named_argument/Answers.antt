use Rattle.clap.specs.Words.{new_rule}
use Rattle.command_line.proofs.lemmas.Rules.{IsReadBy, helped, named, valued}
use Rattle.command_line.proofs.options.named_argument.Goals as goal

pub returns : goal.returns
returns c =
    let new : IsReadBy (new_rule c.args.name.now) c.new.result =
    record { rule = c.new.ensures.rule; own = c.new.ensures.optional.1 } in
    let long = named new c.long.ensures in
    let value_name = valued long c.value_name.ensures in
    let help = helped value_name c.help.ensures in
    (help.rule, help.own)
