use Rattle.std.proofs.Common.{◌++◌, ◌∙◌, ap, sym, arith, List, ℕ}
use Rattle.machine.specs.Lines.{content}
use Rattle.pair_filters.proofs.lemmas.UniqLaws.{some_lines}
use Rattle.pair_filters.proofs.runs.Rules.put_long.Goals as goal

pub returns : goal.returns
returns c =
    c.in_ok-put_some_long.ensures
    ∙ ap (λ (x : List ℕ). c.args.made.now ++ x)
    (sym (some_lines c.args.self (content c.args.first.items) c.args.count (omega arith)))
