use Rattle.std.proofs.Common.{Some, ap, sym, ◌∙◌}
use Rattle.tr_words.proofs.lemmas.ElementLaws.{element_more, elements_end, nothing_left}
use Rattle.tr_words.proofs.element.elements.Goals as goal

pub loop-found-preserved : goal.loop-found-preserved
loop-found-preserved c =
    element_more c.loop-found.elements.items c.add.new.elements.items c.args.string.now
    c.loop-found.rest.now c.skip-rest.result.now c.in-Some.found c.in-Some-element.element
    (sym c.in-Some.ensures.value) c.in-Some-element.is c.in-Some.ensures.within.0
    c.skip-rest.ensures c.in_ok-add.ensures c.loop-found.invariant

pub returns : goal.returns
returns c = elements_end c.loop-found.elements.items c.args.string.now c.loop-found.rest.now
    (nothing_left c.loop-found.rest.now (sym c.in_default.ensures.value)) c.loop-found.invariant
    ∙ ap Some (sym c.from_vec.ensures)
