use Rattle.std.proofs.Common.{◌∙◌, not, rules, tests}
use Rattle.std.specs.Prelude.{bytes_eq, codes}
use Rattle.std.proofs.lemmas.Iterator.{YieldsList-from_slice}
use Rattle.std.proofs.lemmas.Iterator.Search.{any_from_yields_List, YieldsList-from_take_while}
use Rattle.command_line.specs.Presets.{asks}
use Rattle.command_line.proofs.lemmas.Presets.{any_before_end}
use Rattle.command_line.proofs.presets.is_question.Goals as goal

pub returns : goal.returns
returns c = any_from_yields_List (λ word. asks word.items) _ _ c.any.result c.any.ensures.ran
    (YieldsList-from_take_while _ (λ word. not (bytes_eq word.items (codes "--")))
    (YieldsList-from_slice c.args.words.now (cc)) c.take_while.ensures.closure
    c.take_while.ensures.done
    (λ x b q k. search (rules, tests)))
    (λ x b q k. search (rules, tests))
    ∙ any_before_end (λ word. word.items) asks c.args.words.now
