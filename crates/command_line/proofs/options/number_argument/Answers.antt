use Rattle.std.proofs.Common.{◌≡◌, ◌∙◌, Some, ap}
use Rattle.clap.specs.Words.{new_rule}
use Rattle.clap.specs.declared.builder.value_parser.ValueParser.TheVariants.{Unsigned}
use Rattle.command_line.proofs.lemmas.Rules.{IsReadBy, defaulting, helped, named, parsed, valued}
use Rattle.command_line.proofs.options.number_argument.Goals as goal

pub returns : goal.returns
returns c =
    let new : IsReadBy (new_rule c.args.name.now) c.new.result =
    record { rule = c.new.ensures.rule; own = c.new.ensures.optional.1 } in
    let given = c.value_parser.ensures.given in
    let parser : c.value_parser.result.value_parser ≡ Some (Unsigned 1 c.args.most) = given.1
    ∙ ap Some (given.2 ∙ c.unsigned.ensures) in
    let long = named new c.long.ensures in
    let value_name = valued long c.value_name.ensures in
    let value_parser = parsed value_name c.value_parser.ensures.others parser in
    let default_value = defaulting value_parser c.default_value.ensures in
    let help = helped default_value c.help.ensures in
    (help.rule, help.own)
