-- The rules of arguments that are built step by step.
use Rattle.std.proofs.Common.{◌≡◌, ◌∙◌, ◌∷◌, [], ℕ, false, Option, Some, Result, Ok, Err, ap}
use Rattle.std.specs.Prelude.{IfOk}
use Rattle.std.specs.Borrow.{Bor}
use Rattle.clap.specs.Words.{AddsArg, App, Rule, Text, app_of, rule_of, with_rule}
use Rattle.clap.specs.declared.builder.action.ArgAction.{ArgAction}
use Rattle.clap.specs.declared.builder.arg.Arg.{Arg}
use Rattle.clap.specs.declared.builder.command.Command.{Command}
use Rattle.clap.specs.declared.builder.texts.Texts.TheVariants.{One}
use Rattle.clap.specs.declared.builder.value_parser.ValueParser.{ValueParser}

-- words are read by this rule for the argument, and no subcommand has the argument too
pub record IsReadBy (r : Rule) (a : Arg) : Type 0 where
  pub rule : rule_of a ≡ r
  pub own : a.global ≡ false

-- after `.help(text)`
pub helped : {r : Rule} {a b : Arg} {text : Bor Text} → IsReadBy r a
    → b ≡ record a { help = Some text } → IsReadBy r b
helped was is = record {
  rule = ap rule_of is ∙ was.rule;
  own = ap (λ (x : Arg). x.global) is
      ∙ was.own;
}

-- after `.long(name)`
pub named : {r : Rule} {a b : Arg} {name : Bor Text} → IsReadBy r a
    → b ≡ record a { long = Some name } → IsReadBy (record r { long = Some name.now }) b
named {name = name} was is = record {
  rule = ap rule_of is ∙ ap (λ (x : Rule). record x { long = Some name.now }) was.rule;
  own = ap (λ (x : Arg). x.global) is ∙ was.own;
}

-- after `.short(letter)`
pub lettered : {r : Rule} {a b : Arg} {letter : ℕ} → IsReadBy r a
    → b ≡ record a { short = Some letter } → IsReadBy (record r { short = Some letter }) b
lettered {letter = letter} was is = record {
  rule = ap rule_of is ∙ ap (λ (x : Rule). record x { short = Some letter }) was.rule;
  own = ap (λ (x : Arg). x.global) is ∙ was.own;
}

-- after `.action(action)`
pub acting : {r : Rule} {a b : Arg} {action : ArgAction} → IsReadBy r a
    → b ≡ record a { action = Some action } → IsReadBy (record r { action = Some action }) b
acting {action = action} was is = record {
  rule = ap rule_of is ∙ ap (λ (x : Rule). record x { action = Some action }) was.rule;
  own = ap (λ (x : Arg). x.global) is ∙ was.own;
}

-- after `.value_name(name)`
pub valued : {r : Rule} {a b : Arg} {name : Bor Text} → IsReadBy r a
    → b ≡ record a { val_names = One name } → IsReadBy (record r { value_names = 1 }) b
valued was is = record {
  rule = ap rule_of is ∙ ap (λ (x : Rule). record x { value_names = 1 }) was.rule;
  own = ap (λ (x : Arg). x.global) is ∙ was.own;
}

-- after `.default_value(value)`
pub defaulting : {r : Rule} {a b : Arg} {value : Bor Text} → IsReadBy r a
    → b ≡ record a { default_vals = One value }
    → IsReadBy (record r { defaults = value.now ∷ [] }) b
defaulting {value = value} was is = record {
  rule = ap rule_of is ∙ ap (λ (x : Rule). record x { defaults = value.now ∷ [] }) was.rule;
  own = ap (λ (x : Arg). x.global) is ∙ was.own;
}

-- after `.value_parser(parser)`
pub parsed : {r : Rule} {a b : Arg} {parser : Option ValueParser} → IsReadBy r a
    → b ≡ record a { value_parser = b.value_parser } → b.value_parser ≡ parser
    → IsReadBy (record r { parser = parser }) b
parsed {r = r} {b = b} was is given = record {
  rule = ap rule_of is ∙ ap (λ (x : Rule). record x { parser = b.value_parser }) was.rule
      ∙ ap (λ p. record r { parser = p }) given;
  own = ap (λ (x : Arg). x.global) is ∙ was.own;
}

-- a command after `.arg(argument)`, by what it was before
pub grown : (app : App) (r : Rule) (old : Command) (a : Arg) (new : Command) → app_of old ≡ app
    → (rule_of a ≡ r) × (a.global ≡ false) → AddsArg old a new
    → app_of new ≡ with_rule app r
grown app r old a new was rule adds = adds.shape rule.1
    ∙ ap (λ (x : App). with_rule x (rule_of a)) was ∙ ap (with_rule app) rule.0

-- the same, if there is a command
pub grown_if : {E : Type 0} (app : App) (r : Rule) (old : Command) (a : Arg)
    (result : Result Command E) → app_of old ≡ app → (rule_of a ≡ r) × (a.global ≡ false)
    → IfOk result (λ new. AddsArg old a new) → IfOk result (λ new. app_of new ≡ with_rule app r)
grown_if app r old a (Ok new) was rule adds = grown app r old a new was rule adds
grown_if app r old a (Err why) was rule adds = tt
