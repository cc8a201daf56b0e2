use Rattle.std.proofs.Common.{◌∙◌, ap, codes, is_some, option_map, sym}
use Rattle.std.specs.Prelude.{option_and_then}
use Rattle.clap.specs.Words.{found_of}
use Rattle.command_line.specs.ProgressLines.{progress_named}
use Rattle.command_line.proofs.lemmas.Readings.{some_given, text_given}
use Rattle.command_line.proofs.request.asked_progress.Goals as goal

pub returns-in_default-clause-given : goal.returns-in_default-clause-given
returns-in_default-clause-given c =
    text_given (found_of c.args.matches.now) (codes "progress") c.get_str.result c.get_str.ensures
    ∙ ap (option_map (λ s. s.now)) c.in_default.is

pub returns-in-Some-named-clause-given : goal.returns-in-Some-named-clause-given
returns-in-Some-named-clause-given c =
    ap (option_and_then progress_named)
    (text_given (found_of c.args.matches.now)
    (codes "progress") c.get_str.result c.get_str.ensures
    ∙ ap (option_map (λ s. s.now)) c.in-Some.is)
    ∙ sym c.named.ensures ∙ c.in-Some-named.is

pub returns-in-None-clause-misused : goal.returns-in-None-clause-misused
returns-in-None-clause-misused c = (
  c.requires.0,
  c.requires.1,
  (
    some_given (found_of c.args.matches.now) (codes "progress") c.get_str.result c.get_str.ensures
        ∙ ap is_some c.in-Some.is,
    ap (option_and_then progress_named)
        (text_given (found_of c.args.matches.now)
        (codes "progress") c.get_str.result c.get_str.ensures
        ∙ ap (option_map (λ s. s.now)) c.in-Some.is)
        ∙ sym c.named.ensures ∙ c.in-None.is,
  ),
)
