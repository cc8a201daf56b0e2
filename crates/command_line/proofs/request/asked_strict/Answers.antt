use Rattle.std.proofs.Common.{◌∙◌, ap, codes, inl, inr, is_some, option_map, sym}
use Rattle.std.specs.Prelude.{option_and_then}
use Rattle.clap.specs.Words.{found_of}
use Rattle.command_line.specs.StrictNames.{strict_named}
use Rattle.command_line.proofs.lemmas.Readings.{some_given, text_given}
use Rattle.command_line.proofs.request.asked_strict.Goals as goal

pub returns-in_default-clause-given : goal.returns-in_default-clause-given
returns-in_default-clause-given c = inr (
  text_given (found_of c.args.matches.now) (codes "strict") c.get_str.result c.get_str.ensures
      ∙ ap (option_map (λ s. s.now)) c.in_default.is,
  c.is_held.ensures,
)

pub returns-in-Some-strict_named-clause-given : goal.returns-in-Some-strict_named-clause-given
returns-in-Some-strict_named-clause-given c =
    inl (ap (option_and_then strict_named)
    (text_given (found_of c.args.matches.now) (codes "strict") c.get_str.result c.get_str.ensures
    ∙ ap (option_map (λ s. s.now)) c.in-Some.is)
    ∙ sym c.strict_named.ensures ∙ c.in-Some-strict_named.is)

pub returns-in-None-clause-misused : goal.returns-in-None-clause-misused
returns-in-None-clause-misused c = (
  c.requires.0,
  c.requires.1,
  c.requires.2,
  (c.args.placing, c.requires.3),
  (
    some_given (found_of c.args.matches.now) (codes "strict") c.get_str.result c.get_str.ensures
        ∙ ap is_some c.in-Some.is,
    ap (option_and_then strict_named)
        (text_given (found_of c.args.matches.now)
        (codes "strict") c.get_str.result c.get_str.ensures
        ∙ ap (option_map (λ s. s.now)) c.in-Some.is)
        ∙ sym c.strict_named.ensures ∙ c.in-None.is,
  ),
)
