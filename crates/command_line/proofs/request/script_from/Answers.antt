use Rattle.std.proofs.Common.{◌∙◌, ap, sym, codes, option_map, is_some}
use Rattle.clap.specs.Words.{found_of}
use Rattle.command_line.proofs.lemmas.Readings.{some_given, text_given}
use Rattle.command_line.proofs.request.script_from.Goals as goal

pub returns-in-Some-None-clause-given : goal.returns-in-Some-None-clause-given
returns-in-Some-None-clause-given c = (
  text_given (found_of c.args.matches.now) (codes "TEXT") c.get_str.result c.get_str.ensures
      ∙ ap (option_map (λ s. s.now)) c.in-Some-None.is-0,
  text_given (found_of c.args.matches.now) (codes "SCRIPT") c.get_str-2.result c.get_str-2.ensures
      ∙ ap (option_map (λ s. s.now)) c.in-Some-None.is-1,
)

pub returns-in-None-Some-clause-given : goal.returns-in-None-Some-clause-given
returns-in-None-Some-clause-given c = (
  text_given (found_of c.args.matches.now) (codes "TEXT") c.get_str.result c.get_str.ensures
      ∙ ap (option_map (λ s. s.now)) c.in-None-Some.is-0,
  text_given (found_of c.args.matches.now) (codes "SCRIPT") c.get_str-2.result c.get_str-2.ensures
      ∙ ap (option_map (λ s. s.now)) c.in-None-Some.is-1,
)

pub returns-in-Some-Some-clause-misused : goal.returns-in-Some-Some-clause-misused
returns-in-Some-Some-clause-misused c = (
  c.requires,
  some_given (found_of c.args.matches.now) (codes "TEXT") c.get_str.result c.get_str.ensures
      ∙ ap is_some c.in-Some-Some.is-0 ∙ sym (ap is_some c.in-Some-Some.is-1)
      ∙ sym (some_given (found_of c.args.matches.now)
      (codes "SCRIPT") c.get_str-2.result c.get_str-2.ensures),
)

pub returns-in-None-None-clause-misused : goal.returns-in-None-None-clause-misused
returns-in-None-None-clause-misused c = (
  c.requires,
  some_given (found_of c.args.matches.now) (codes "TEXT") c.get_str.result c.get_str.ensures
      ∙ ap is_some c.in-None-None.is-0 ∙ sym (ap is_some c.in-None-None.is-1)
      ∙ sym (some_given (found_of c.args.matches.now)
      (codes "SCRIPT") c.get_str-2.result c.get_str-2.ensures),
)
