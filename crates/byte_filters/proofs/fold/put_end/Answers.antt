use Rattle.std.proofs.Common.{List, ℕ, drop, ap, ◌∙◌, ◌++◌}
use Rattle.std.proofs.lemmas.List.{take_rest}
use Rattle.byte_filters.proofs.lemmas.FoldMoves.{whole_text}
use Rattle.byte_filters.proofs.fold.put_end.Goals as goal

pub returns : goal.returns
returns c =
    let held = c.args.held.now in
    whole_text c.args.spec.now held (drop c.in_ok-count.count held) c.args.made.now
    c.fold_text.new.made c.put.new.self c.in_ok-count.ensures.folds c.in_ok-count.ensures.ends
    (c.in_ok-put.ensures ∙ ap (λ (z : List ℕ). c.fold_text.new.made ++ z)
    (take_rest held c.in_ok-count.count))
