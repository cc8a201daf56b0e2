use Rattle.std.proofs.Common.{◌++◌, ◌∙◌, ap, sym, arith, List, ℕ}
use Rattle.machine.specs.Lines.{content}
use Rattle.lanes.specs.inner.Prefixes.{prefix_bytes}
use Rattle.pair_filters.proofs.lemmas.UniqLaws.{some_lines}
use Rattle.pair_filters.proofs.runs.Rules.put_run.Goals as goal

pub returns : goal.returns
returns c =
    c.in_ok-put_some.ensures
    ∙ ap (λ (x : List ℕ). c.args.made.now ++ x)
    (sym (some_lines c.args.self (content (prefix_bytes c.args.first)) c.args.count
    (omega arith)))
