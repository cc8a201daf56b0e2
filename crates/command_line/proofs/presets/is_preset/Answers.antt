use Rattle.std.proofs.Common.{◌∙◌, ap}
use Rattle.std.specs.List.{list_any}
use Rattle.command_line.specs.Presets.{is_option, the_presets}
use Rattle.command_line.proofs.presets.is_preset.Goals as goal

pub returns : goal.returns
unfolding the_presets
returns c = c.is_one_of.ensures
    ∙ ap (list_any (λ option. is_option option.now c.args.word.now)) c.as_slice.ensures
