use Rattle.std.proofs.Common.{◌≡◌, ◌∙◌, Bool, true, false, not, ap, subst, arith, refl}
use Rattle.std.proofs.lemmas.List.{get_or_default}
use Rattle.pair_filters.specs.Intakes.{Left, over, PutsLine}
use Rattle.pair_filters.proofs.lemmas.CellLaws.{cell_put, cell_gone}
use Rattle.pair_filters.proofs.table.put_cell.Goals as goal

pub returns-then-input-intakes : goal.returns-then-input-intakes
returns-then-input-intakes c =
    cell_gone c.args.delimiters.now c.args.input c.args.intakes.now c.args.place.now c.args.made.now
    (omega arith)

empty_not : (b : Bool) → not b ≡ false → b ≡ true
empty_not true h = refl
empty_not false h = absurd (cc)

some_not : (b : Bool) → not b ≡ true → b ≡ true → ⊥
some_not true h k = cc
some_not false h k = cc

pub returns : goal.returns
returns c =
    let i = c.args.input in
    let ss = c.args.intakes.now in
    let b = c.is_empty.result in
    cell_put c.args.delimiters.now i ss c.put_line.new.self c.args.place.now c.begin_row.new.place
    (not b) c.in_ok-ended.ended c.args.made.now c.begin_row.new.made c.put_line.new.made
    (omega arith) c.in_ok-begin_row.ensures
    (λ h none. some_not b h
    (c.is_empty.ensures.1 (ap (λ (s : Left). s.left)
    (get_or_default ss i c.index-intakes-input.result over (omega arith)) ∙ none)))
    (λ h. ap (λ (s : Left). s.left)
    (get_or_default ss i over c.index-intakes-input.result (omega arith))
    ∙ c.is_empty.ensures.0 (empty_not b h))
    (subst (λ (s : Left). PutsLine s c.put_line.new.self c.in_ok-ended.ended c.begin_row.new.made
    c.put_line.new.made) (get_or_default ss i c.index-intakes-input-2.result over (omega arith))
    c.in_ok-ended.ensures)
