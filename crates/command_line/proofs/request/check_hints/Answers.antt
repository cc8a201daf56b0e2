use Rattle.std.proofs.Common.{◌∙◌, ap, codes, inl, inr, is_some, option_map, sym}
use Rattle.std.specs.Prelude.{option_and_then}
use Rattle.clap.specs.Words.{found_of}
use Rattle.command_line.specs.HintPlaces.{hints_named}
use Rattle.command_line.proofs.lemmas.Readings.{some_given, text_given}
use Rattle.command_line.proofs.request.check_hints.Goals as goal

pub returns-in_default-clause-known : goal.returns-in_default-clause-known
returns-in_default-clause-known c =
    inl (text_given (found_of c.args.matches.now) (codes "hints") c.get_str.result c.get_str.ensures
    ∙ ap (option_map (λ s. s.now)) c.in_default.is)

pub returns-in-Some-named-clause-known : goal.returns-in-Some-named-clause-known
returns-in-Some-named-clause-known c =
    inr (ap is_some
    (ap (option_and_then hints_named)
    (text_given (found_of c.args.matches.now) (codes "hints") c.get_str.result c.get_str.ensures
    ∙ ap (option_map (λ s. s.now)) c.in-Some.is)
    ∙ sym c.named.ensures ∙ c.in-Some-named.is))

pub returns-in-None-clause-misused : goal.returns-in-None-clause-misused
returns-in-None-clause-misused c = (
  c.requires.0,
  c.requires.1,
  c.requires.2,
  c.requires.3,
  (
    some_given (found_of c.args.matches.now) (codes "hints") c.get_str.result c.get_str.ensures
        ∙ ap is_some c.in-Some.is,
    ap (option_and_then hints_named)
        (text_given (found_of c.args.matches.now) (codes "hints") c.get_str.result c.get_str.ensures
        ∙ ap (option_map (λ s. s.now)) c.in-Some.is)
        ∙ sym c.named.ensures ∙ c.in-None.is,
  ),
)
