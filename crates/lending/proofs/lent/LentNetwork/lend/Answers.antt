use Rattle.std.proofs.Common.{arith}
use Rattle.std.proofs.lemmas.List.{with_items_is}
use Rattle.networks.specs.Networks.{Networked, network_of}
use Rattle.lending.specs.inner.Loans.{Grouped}
use Rattle.lending.proofs.lemmas.ViewLaws.{lends}
use Rattle.lending.proofs.lent.LentNetwork.lend.Goals as goal

pub returns-clause-lent : goal.returns-clause-lent
returns-clause-lent g c =
    let m : Networked g.row.M.Denot = network_of c.self.inside.parts in
    let group : Grouped g.row.M.Denot =
    record { places = c.take_all.new.places.items; stages = c.take_all.new.stages.items } in
    lends m c.args.self.now c.deref_mut.result.now c.take_all.new.nodes _ c.self.view_is
    c.deref_mut.ensures.value
    (with_items_is c.self.inside.parts.nodes c.take_all.new.nodes
    (omega (arith, c.take_all.auto.nodes, c.deref_mut.ensures.len)))
    c.args.nodes.now group c.take_all.ensures.places c.take_all.ensures.free c.take_all.ensures.back
