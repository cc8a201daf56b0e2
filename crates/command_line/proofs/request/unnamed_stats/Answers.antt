use Rattle.std.proofs.Common.{◌∙◌, ap, codes, is_some, option_map, refl}
use Rattle.clap.specs.Words.{found_of}
use Rattle.command_line.proofs.lemmas.Readings.{some_given, text_given}
use Rattle.command_line.proofs.request.unnamed_stats.Goals as goal

pub returns-in-Some : goal.returns-in-Some
returns-in-Some c = (
  refl,
  some_given (found_of c.args.matches.now)
      (codes "stats-to") c.get_str.result c.get_str.ensures ∙ ap is_some c.in-Some.is,
)

pub returns-in-None : goal.returns-in-None
returns-in-None c = text_given (found_of c.args.matches.now)
    (codes "stats-to") c.get_str.result c.get_str.ensures
    ∙ ap (option_map (λ s. s.now)) c.in-None.is
