use Rattle.std.proofs.Common.{◌≤◌, List, ℕ, get_or, sym, subst, take}
use Rattle.std.specs.List.{All}
use Rattle.std.proofs.lemmas.List.{take_more}
use Rattle.std.proofs.lemmas.List.Elements.{All-push}
use Rattle.pair_filters.proofs.table.first_column.Goals as goal

pub loop-p-preserved : goal.loop-p-preserved
loop-p-preserved c =
    let xs = c.args.columns.now in
    let p = c.loop-p.p in
    subst (λ (ys : List ℕ). All (λ i. c.args.inputs ≤ i) ys)
    (sym (take_more xs p 0 c.loop-p-test.true))
    (All-push (λ i. c.args.inputs ≤ i) (take p xs)
    (get_or xs p 0) c.loop-p.invariant c.if-input-inputs.false)
