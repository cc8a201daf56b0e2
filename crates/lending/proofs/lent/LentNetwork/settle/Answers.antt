use Rattle.std.proofs.Common.{refl, arith}
use Rattle.std.proofs.lemmas.List.{with_items_is}
use Rattle.networks.specs.Networks.{Networked, network_of}
use Rattle.lending.specs.inner.Loans.{filled}
use Rattle.lending.proofs.lemmas.SettleLaws.{settles_joined, settles_same, settles_opened}
use Rattle.lending.proofs.lemmas.SettleLaws.{settles_right}
use Rattle.lending.proofs.lemmas.ViewLaws.{settles}
use Rattle.lending.proofs.lent.LentNetwork.settle.Goals as goal

pub from_parts-requires : goal.from_parts-requires
from_parts-requires g c =
    let m : Networked g.row.M.Denot = network_of c.self.inside.parts in
    let items = with_items_is c.self.inside.parts.nodes c.settle_all.new.nodes
    (omega (arith, c.settle_all.auto.nodes, c.deref_mut.ensures.len)) in
    settles_joined (filled c.args.self c.args.groups.items) _
    (settles m c.args.self c.deref_mut.result.now c.settle_all.new.nodes _ c.self.view_is
    c.deref_mut.ensures.value items _ refl c.args.groups.items c.deref.result.now
    c.deref.ensures.value c.settle_all.ensures.sees c.settle_all.ensures.beside)
    c.requires.whole

pub returns : goal.returns
returns g c =
    let m : Networked g.row.M.Denot = network_of c.self.inside.parts in
    let items = with_items_is c.self.inside.parts.nodes c.settle_all.new.nodes
    (omega (arith, c.settle_all.auto.nodes, c.deref_mut.ensures.len)) in
    let s = settles m c.args.self c.deref_mut.result.now c.settle_all.new.nodes _ c.self.view_is
    c.deref_mut.ensures.value items c.from_parts.result c.from_parts.ensures c.args.groups.items
    c.deref.result.now c.deref.ensures.value c.settle_all.ensures.sees
    c.settle_all.ensures.beside in
    record {
      settled = s;
      same = settles_same (filled c.args.self c.args.groups.items) c.from_parts.result s;
      opened = settles_opened (filled c.args.self c.args.groups.items) c.from_parts.result s;
      right = settles_right (filled c.args.self c.args.groups.items) c.from_parts.result s
          g.M.Machine.shows;
    }
