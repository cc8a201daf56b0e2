use Rattle.std.proofs.Common.{List, ℕ, ◌≡◌, ◌+◌, ◌-◌, ◌++◌, ◌∙◌, length, take, drop, ap, subst}
use Rattle.std.proofs.lemmas.List.{take_rest, take-append-drop}
use Rattle.byte_filters.specs.inner.Scans.{Folds}
use Rattle.byte_filters.proofs.lemmas.FoldMoves.{folds_on, line_to}
use Rattle.byte_filters.proofs.fold.take_bytes.Goals as goal

pub fold_line-requires : goal.fold_line-requires
fold_line-requires c = line_to c.args.bytes.now c.in-Some.field-0 c.in-Some.ensures

pub returns-in_ok-fold_slice-in-Some-2-clause-folds :
    goal.returns-in_ok-fold_slice-in-Some-2-clause-folds
returns-in_ok-fold_slice-in-Some-2-clause-folds c =
    let held = c.args.held.now.items in
    let bytes = c.args.bytes.now in
    let n = c.in-Some.field-0 + 1 in
    let more = c.fold_slice-in-Some-2.new in
    let after = take (length bytes - n) (drop n bytes) in
    let whole : take n bytes ++ after ≡ bytes =
    ap (λ (z : List ℕ). take n bytes ++ z) (take_rest bytes n) ∙ take-append-drop n bytes in
    subst (λ (z : List ℕ). Folds c.args.spec.now
    (held ++ z) more.held.items c.args.made.now more.made) whole
    (folds_on c.args.spec.now held (take n bytes) after more.held.items c.fold_line.new.held.items
    c.args.made.now c.fold_line.new.made more.made c.in_ok-fold_line-in-Some-2.ensures.empty
    c.in_ok-fold_line-in-Some-2.ensures.folds c.in_ok-fold_slice-in-Some-2.ensures.folds)
