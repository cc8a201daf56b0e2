use Rattle.std.proofs.Common.{◌&&◌, ◌∙◌, ap, map}
use Rattle.std.specs.List.{list_any}
use Rattle.command_line.specs.Presets.{is_given, is_option, the_presets}
use Rattle.command_line.proofs.presets.is_given_too.Goals as goal

pub returns : goal.returns
unfolding the_presets
returns c = c.gives_one_of.ensures
    ∙ ap (list_any (λ option. is_option option.now c.args.word.now
    && is_given (map (λ word. word.items) c.args.words.now) option.now)) c.as_slice.ensures
