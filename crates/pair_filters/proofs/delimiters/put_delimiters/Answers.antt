use Rattle.std.proofs.Common.{◌++◌, ◌∙◌, List, ℕ, ap, sym, append_assoc}
use Rattle.commands.specs.Delimiters.{delimiter}
use Rattle.pair_filters.specs.TableRows.{delimiters_below}
use Rattle.pair_filters.proofs.lemmas.StepLaws.{below_more}
use Rattle.pair_filters.proofs.delimiters.put_delimiters.Goals as goal

pub loop-i-preserved : goal.loop-i-preserved
loop-i-preserved c =
    let ds = c.args.delimiters.now in
    let i = c.loop-i.i in
    let made = c.args.made.now in
    c.in_ok-put_delimiter.ensures
    ∙ (ap (λ (x : List ℕ). x ++ delimiter ds i) c.loop-i.invariant
    ∙ (append_assoc made (delimiters_below ds i) (delimiter ds i)
    ∙ ap (λ (x : List ℕ). made ++ x) (sym (below_more ds i))))
