use Rattle.std.proofs.Common.{◌∙◌, sym, arith}
use Rattle.lending.proofs.lemmas.TakeLaws.{last_within, groups_within, put_last_group, fill_none}
use Rattle.lending.proofs.lemmas.TakeLaws.{one_less}
use Rattle.lending.proofs.lent.put_groups.Goals as goal

pub put_group-requires : goal.put_group-requires
put_group-requires g c =
    record {
      within = last_within c.loop-done.nodes c.loop-done.groups.items
          c.take_last.new.items.items c.take_last.result c.take_last.ensures c.loop-done.invariant.within;
    }

pub loop-done-preserved : goal.loop-done-preserved
loop-done-preserved g c =
    let i = c.loop-done.invariant in
    let gs = c.loop-done.groups.items in
    let hs = c.take_last.new.items.items in
    let less = one_less gs hs c.take_last.result c.take_last.ensures in
    record {
      left = omega (arith, i.left, less);
      within = groups_within c.loop-done.nodes c.put_group.new.nodes c.put_group.auto.nodes gs hs
          c.take_last.result c.take_last.ensures i.within;
      put = put_last_group c.loop-done.nodes c.put_group.new.nodes gs hs c.take_last.result
          c.take_last.ensures c.put_group.ensures ∙ i.put;
    }

pub returns : goal.returns
returns g c =
    let i = c.loop-done.invariant in
    sym (fill_none c.loop-done.groups.items c.loop-done.nodes
    (omega (arith, i.left, c.loop-done-test.false, c.loop-done.auto.done-end))) ∙ i.put
