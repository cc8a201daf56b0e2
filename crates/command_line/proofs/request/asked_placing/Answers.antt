use Rattle.std.proofs.Common.{◌∙◌, ap, codes, is_some, option_map, sym}
use Rattle.std.specs.Prelude.{option_and_then}
use Rattle.clap.specs.Words.{found_of, rows_of}
use Rattle.command_line.specs.PlacingNames.{placing_named}
use Rattle.command_line.proofs.lemmas.Readings.{placing_given, some_given, text_given}
use Rattle.command_line.proofs.request.asked_placing.Goals as goal

pub returns-in_default-clause-given : goal.returns-in_default-clause-given
returns-in_default-clause-given c =
    text_given (found_of c.args.matches.now) (codes "atomic") c.get_str.result c.get_str.ensures
    ∙ ap (option_map (λ s. s.now)) c.in_default.is

pub returns-in-Some-placing_named-clause-given : goal.returns-in-Some-placing_named-clause-given
returns-in-Some-placing_named-clause-given c =
    placing_given (rows_of (found_of c.args.matches.now)) c.in-Some-placing_named.placing
    (ap (option_and_then placing_named)
    (text_given (found_of c.args.matches.now)
    (codes "atomic") c.get_str.result c.get_str.ensures
    ∙ ap (option_map (λ s. s.now)) c.in-Some.is)
    ∙ sym c.placing_named.ensures ∙ c.in-Some-placing_named.is)

pub returns-in-None-clause-misused : goal.returns-in-None-clause-misused
returns-in-None-clause-misused c = (
  c.requires.0,
  c.requires.1,
  c.requires.2,
  (
    some_given (found_of c.args.matches.now) (codes "atomic") c.get_str.result c.get_str.ensures
        ∙ ap is_some c.in-Some.is,
    ap (option_and_then placing_named)
        (text_given (found_of c.args.matches.now)
        (codes "atomic") c.get_str.result c.get_str.ensures
        ∙ ap (option_map (λ s. s.now)) c.in-Some.is)
        ∙ sym c.placing_named.ensures ∙ c.in-None.is,
  ),
)
