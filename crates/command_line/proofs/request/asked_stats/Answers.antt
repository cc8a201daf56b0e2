use Rattle.std.proofs.Common.{◌∙◌, ap, codes, is_some, option_map, sym}
use Rattle.std.specs.Prelude.{option_and_then}
use Rattle.clap.specs.Words.{found_of, rows_of}
use Rattle.command_line.specs.StatsForms.{stats_named}
use Rattle.command_line.proofs.lemmas.Readings.{named_stats_given, some_given, text_given}
use Rattle.command_line.proofs.lemmas.Readings.{unnamed_stats_given}
use Rattle.command_line.proofs.request.asked_stats.Goals as goal

pub returns-in_default-clause-given : goal.returns-in_default-clause-given
returns-in_default-clause-given c =
    unnamed_stats_given (rows_of (found_of c.args.matches.now)) c.unnamed_stats.result
    (text_given (found_of c.args.matches.now) (codes "stats") c.get_str.result c.get_str.ensures
    ∙ ap (option_map (λ s. s.now)) c.in_default.is)
    c.unnamed_stats.ensures

pub returns-in-Some-named-clause-given : goal.returns-in-Some-named-clause-given
returns-in-Some-named-clause-given c =
    named_stats_given (rows_of (found_of c.args.matches.now)) c.in-Some-named.form
    (ap (option_and_then stats_named)
    (text_given (found_of c.args.matches.now) (codes "stats") c.get_str.result c.get_str.ensures
    ∙ ap (option_map (λ s. s.now)) c.in-Some.is)
    ∙ sym c.named.ensures ∙ c.in-Some-named.is)

pub returns-in-None-clause-misused : goal.returns-in-None-clause-misused
returns-in-None-clause-misused c = (
  c.requires.0,
  c.requires.1,
  c.requires.2,
  (
    some_given (found_of c.args.matches.now) (codes "stats") c.get_str.result c.get_str.ensures
        ∙ ap is_some c.in-Some.is,
    ap (option_and_then stats_named)
        (text_given (found_of c.args.matches.now) (codes "stats") c.get_str.result c.get_str.ensures
        ∙ ap (option_map (λ s. s.now)) c.in-Some.is)
        ∙ sym c.named.ensures ∙ c.in-None.is,
  ),
)
