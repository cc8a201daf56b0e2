use Rattle.std.proofs.Common.{arith}
use Rattle.std.proofs.lemmas.List.{with_items_is}
use Rattle.networks.proofs.Grown.{has_of, bounds_of, joined_of, grows_of, right_of, opened_of}
use Rattle.networks.proofs.network.Network.regrow.Goals as goal

pub regrow_at-requires-clause-ends : goal.regrow_at-requires-clause-ends
regrow_at-requires-clause-ends g c =
    has_of c.self.inside.parts.nodes.items c.deref_mut.result.now c.self.inside.parts.pipes.items
    c.self.inside.parts.wires.items c.self.inside.parts.status c.self.inside.parts.most c.args.pipe
    c.args.self.now c.self.view_is c.self.invariant c.requires.pipe c.index.result.now
    c.index.ensures c.deref_mut.ensures.value

pub regrow_at-requires-clause-room : goal.regrow_at-requires-clause-room
regrow_at-requires-clause-room g c =
    bounds_of c.self.inside.parts.nodes.items c.deref_mut.result.now c.self.inside.parts.pipes.items
    c.self.inside.parts.wires.items c.self.inside.parts.status c.self.inside.parts.most c.args.pipe
    c.args.self.now c.self.view_is c.self.invariant c.requires.pipe c.index.result.now
    c.index.ensures c.deref_mut.ensures.value c.args.capacity c.requires.less c.requires.twice

pub invariant_of-self : goal.invariant_of-self
invariant_of-self g c =
    let items = with_items_is c.self.inside.parts.nodes c.regrow_at.new.nodes
    (omega (arith, c.regrow_at.auto.nodes, c.deref_mut.ensures.len)) in
    joined_of c.self.inside.parts.nodes.items c.deref_mut.result.now c.self.inside.parts.pipes.items
    c.self.inside.parts.wires.items c.self.inside.parts.status c.self.inside.parts.most
    c.args.pipe c.args.self.now c.self.view_is c.self.invariant c.requires.pipe
    c.index.result.now c.index.ensures c.deref_mut.ensures.value c.args.capacity c.requires.less
    c.requires.twice c.regrow_at.new.nodes _ items c.regrow_at.result c.regrow_at.ensures.grows
    c.regrow_at.ensures.refused

pub returns-clause-grows : goal.returns-clause-grows
returns-clause-grows g c =
    let items = with_items_is c.self.inside.parts.nodes c.regrow_at.new.nodes
    (omega (arith, c.regrow_at.auto.nodes, c.deref_mut.ensures.len)) in
    grows_of c.self.inside.parts.nodes.items c.deref_mut.result.now c.self.inside.parts.pipes.items
    c.self.inside.parts.wires.items c.self.inside.parts.status c.self.inside.parts.most
    c.args.pipe c.args.self.now c.self.view_is c.self.invariant c.requires.pipe
    c.index.result.now c.index.ensures c.deref_mut.ensures.value c.args.capacity c.requires.less
    c.requires.twice c.regrow_at.new.nodes _ items c.regrow_at.result c.regrow_at.ensures.grows

pub returns-clause-right : goal.returns-clause-right
returns-clause-right g c =
    let items = with_items_is c.self.inside.parts.nodes c.regrow_at.new.nodes
    (omega (arith, c.regrow_at.auto.nodes, c.deref_mut.ensures.len)) in
    right_of c.self.inside.parts.nodes.items c.deref_mut.result.now c.self.inside.parts.pipes.items
    c.self.inside.parts.wires.items c.self.inside.parts.status c.self.inside.parts.most
    c.args.pipe c.args.self.now c.self.view_is c.self.invariant c.requires.pipe
    c.index.result.now c.index.ensures c.deref_mut.ensures.value c.args.capacity c.requires.less
    c.requires.twice c.regrow_at.new.nodes _ items c.regrow_at.result c.regrow_at.ensures.grows
    g.M.Machine.shows

pub returns-clause-opened : goal.returns-clause-opened
returns-clause-opened g c =
    let items = with_items_is c.self.inside.parts.nodes c.regrow_at.new.nodes
    (omega (arith, c.regrow_at.auto.nodes, c.deref_mut.ensures.len)) in
    opened_of c.self.inside.parts.nodes.items c.deref_mut.result.now c.self.inside.parts.pipes.items
    c.self.inside.parts.wires.items c.self.inside.parts.status c.self.inside.parts.most
    c.args.pipe c.args.self.now c.self.view_is c.self.invariant c.requires.pipe
    c.index.result.now c.index.ensures c.deref_mut.ensures.value c.args.capacity c.requires.less
    c.requires.twice c.regrow_at.new.nodes _ items c.regrow_at.result c.regrow_at.ensures.grows
