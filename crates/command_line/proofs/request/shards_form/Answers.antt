use Rattle.std.proofs.Common.{◌∙◌, ap, codes, is_some, option_map, sym}
use Rattle.std.specs.Prelude.{option_and_then}
use Rattle.clap.specs.Words.{found_of}
use Rattle.command_line.specs.ShardsForms.{shards_named}
use Rattle.command_line.proofs.lemmas.Readings.{some_given, text_given}
use Rattle.command_line.proofs.request.shards_form.Goals as goal

pub returns-in_default-clause-form : goal.returns-in_default-clause-form
returns-in_default-clause-form c =
    text_given (found_of c.args.matches.now) (codes "shards") c.get_str.result c.get_str.ensures
    ∙ ap (option_map (λ s. s.now)) c.in_default.is

pub returns-in-Some-named-clause-form : goal.returns-in-Some-named-clause-form
returns-in-Some-named-clause-form c =
    ap (option_and_then shards_named)
    (text_given (found_of c.args.matches.now)
    (codes "shards") c.get_str.result c.get_str.ensures
    ∙ ap (option_map (λ s. s.now)) c.in-Some.is)
    ∙ sym c.named.ensures ∙ c.in-Some-named.is

pub returns-in-None-clause-misused : goal.returns-in-None-clause-misused
returns-in-None-clause-misused c = (
  c.requires.0,
  c.requires.1,
  c.requires.2,
  c.requires.3,
  c.requires.4,
  (
    some_given (found_of c.args.matches.now) (codes "shards") c.get_str.result c.get_str.ensures
        ∙ ap is_some c.in-Some.is,
    ap (option_and_then shards_named)
        (text_given (found_of c.args.matches.now)
        (codes "shards") c.get_str.result c.get_str.ensures
        ∙ ap (option_map (λ s. s.now)) c.in-Some.is)
        ∙ sym c.named.ensures ∙ c.in-None.is,
  ),
)
