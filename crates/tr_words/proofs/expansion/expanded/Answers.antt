use Rattle.std.proofs.Common.{◌++◌, List, ℕ, Some, ap, sym, ◌∙◌, arith}
use Rattle.tr_words.specs.Expansions.{class_from}
use Rattle.tr_words.specs.declared.class.Class.{Class}
use Rattle.tr_words.proofs.lemmas.ExpansionLaws.{none_expanded, more_expanded, too_long}
use Rattle.tr_words.proofs.lemmas.ExpansionLaws.{all_expanded}
use Rattle.tr_words.proofs.expansion.expanded.Goals as goal

pub elements-init : goal.elements-init
elements-init c = none_expanded c.args.needed c.args.elements.now c.new-bytes.result.items
    c.new-classes.result.items c.new-bytes.ensures.items c.new-classes.ensures.items

pub returns-then-len-gt-STRING_MAX : goal.returns-then-len-gt-STRING_MAX
returns-then-len-gt-STRING_MAX c =
    rw c.at.ensures
    (too_long c.args.needed c.args.elements.now c.elements.rest.now c.in-Some.after.now
    c.in-Some.element.now c.elements.bytes.items c.add.new.bytes.items c.elements.classes.items
    c.add_class_from.new.classes.items c.in-Some.ensures c.in_ok-add.ensures
    (c.in_ok-add_class_from.ensures
    ∙ ap (λ (n : ℕ). c.elements.classes.items ++ class_from n c.in-Some.element.now)
    (omega (arith, c.elements.bytes.ok.0, c.len.ensures)))
    (omega (arith, c.add.new.bytes.ok.0)) c.elements.invariant)

pub elements-preserved : goal.elements-preserved
elements-preserved c =
    more_expanded c.args.needed c.args.elements.now c.elements.rest.now c.in-Some.after.now
    c.in-Some.element.now c.elements.bytes.items c.add.new.bytes.items c.elements.classes.items
    c.add_class_from.new.classes.items c.in-Some.ensures c.in_ok-add.ensures
    (c.in_ok-add_class_from.ensures
    ∙ ap (λ (n : ℕ). c.elements.classes.items ++ class_from n c.in-Some.element.now)
    (omega (arith, c.elements.bytes.ok.0, c.len.ensures)))
    (omega (arith, c.add.new.bytes.ok.0)) c.elements.invariant

pub returns : goal.returns
returns c =
    all_expanded c.args.needed c.args.elements.now c.elements.rest.now c.elements.bytes.items
    c.elements.classes.items c.in_default.ensures c.elements.invariant
    ∙ (ap (λ (x : List ℕ). Some (record { bytes = x; classes = c.elements.classes.items }))
    (sym c.from_vec.ensures)
    ∙ ap (λ (x : List (ℕ × Class)). Some (record { bytes = c.from_vec.result; classes = x }))
    (sym c.from_vec-2.ensures))
