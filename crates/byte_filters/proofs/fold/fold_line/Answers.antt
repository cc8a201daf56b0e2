use Rattle.std.proofs.Common.{◌∙◌}
use Rattle.byte_filters.proofs.lemmas.FoldMoves.{line_folded}
use Rattle.byte_filters.proofs.fold.fold_line.Goals as goal

pub returns-clause-folds : goal.returns-clause-folds
returns-clause-folds c =
    line_folded c.args.spec.now c.args.held.now.items c.args.line.now c.deref.result.now
    c.clear_and_shrink.new.bytes.items c.args.made.now c.fold_text.new.made
    c.in_ok-fold_text.field-0 c.requires (c.deref.ensures.value
    ∙ c.in_ok-append.ensures) c.clear_and_shrink.ensures c.in_ok-fold_text.ensures.plain
    c.in_ok-fold_text.ensures.folds
