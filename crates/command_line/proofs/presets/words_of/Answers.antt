use Rattle.std.proofs.Common.{◌==◌, length, not, rules, tests}
use Rattle.std.specs.Char.{is_ascii_whitespace}
use Rattle.std.proofs.lemmas.Iterator.Consumers.{map_from_collect, YieldsList-from_filter}
use Rattle.std.proofs.lemmas.Iterator.Splits.{YieldsList-from_slice_split}
use Rattle.command_line.proofs.presets.words_of.Goals as goal

pub returns : goal.returns
returns c = map_from_collect _ c.collect.ensures.ran
    (YieldsList-from_filter _ (λ word. not (length word == 0))
    (YieldsList-from_slice_split _ is_ascii_whitespace c.args.options.now (cc) (cc) (cc)
    (λ x b q k. search (rules, tests)))
    c.filter.ensures.closure (λ x b q k. search (rules, tests)))
