use Rattle.std.proofs.Common.{◌∙◌, ap, sym}
use Rattle.command_line.proofs.lemmas.Presets.{is_no_option, is_option_by, may_follow}
use Rattle.command_line.proofs.presets.is_option.Goals as goal

pub returns-in_default : goal.returns-in_default
returns-in_default c =
    sym (is_no_option c.args.option.now c.args.word.now c.in_default.ensures.cases)

pub returns-in-Some-split_first : goal.returns-in-Some-split_first
returns-in-Some-split_first c =
    sym (is_option_by c.args.option.now c.args.word.now c.in-Some.ensures.cases.0
    ∙ ap may_follow (sym c.in-Some.ensures.cases.1 ∙ c.in-Some-split_first.ensures.cases.0))
