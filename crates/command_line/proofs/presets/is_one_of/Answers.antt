use Rattle.std.proofs.Common.{rules, tests}
use Rattle.std.proofs.lemmas.Iterator.{YieldsList-from_slice}
use Rattle.std.proofs.lemmas.Iterator.Search.{any_from_yields_List}
use Rattle.command_line.specs.Presets.{is_option}
use Rattle.command_line.proofs.presets.is_one_of.Goals as goal

pub returns : goal.returns
returns c = any_from_yields_List (λ option. is_option option.now c.args.word.now) _ _ _
    c.any.ensures.ran
    (YieldsList-from_slice c.args.options.now (cc)) (λ x b q k. search (rules, tests))
