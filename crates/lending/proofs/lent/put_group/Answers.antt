use Rattle.std.proofs.Common.{◌<◌, length, ◌∙◌, sym, arith}
use Rattle.lending.proofs.lemmas.TakeLaws.{all_last, put_last, put_none, within_more, one_less}
use Rattle.lending.proofs.lent.put_group.Goals as goal

pub put_back-requires : goal.put_back-requires
put_back-requires g c =
    record {
      within =
          (all_last (λ k. k < length c.loop-done.nodes) c.loop-done.places.items
          c.take_last.new.items.items c.take_last.result c.take_last.ensures
          c.loop-done.invariant.within).1;
    }

pub loop-done-preserved : goal.loop-done-preserved
loop-done-preserved g c =
    let i = c.loop-done.invariant in
    let ps = c.loop-done.places.items in
    let qs = c.take_last.new.items.items in
    let ts = c.loop-done.stages.items in
    let us = c.take_last-in-loop-done.new.items.items in
    let e = c.take_last.ensures in
    let f = c.take_last-in-loop-done.ensures in
    let less = one_less ps qs c.take_last.result e in
    let fewer = one_less ts us c.take_last-in-loop-done.result f in
    record {
      count = omega (arith, i.count, less, fewer);
      left = omega (arith, i.left, less);
      within = within_more c.loop-done.nodes c.put_back.new.nodes c.put_back.auto.nodes qs
          (all_last (λ k. k < length c.loop-done.nodes) ps qs c.take_last.result e i.within).0;
      put = put_last c.loop-done.nodes c.put_back.new.nodes ps qs c.take_last.result ts us
          c.take_last-in-loop-done.result e f i.count c.put_back.ensures.nodes ∙ i.put;
    }

pub returns : goal.returns
returns g c =
    let i = c.loop-done.invariant in
    sym (put_none c.loop-done.places.items c.loop-done.stages.items c.loop-done.nodes
    (omega (arith, i.left, c.loop-done-test.false, c.loop-done.auto.done-end))) ∙ i.put
