use Rattle.std.proofs.Common.{◌≡◌, ◌<◌, ◌∙◌, List, length, get_or, ap, arith}
use Rattle.network_nodes.specs.declared.actor.Link.{Link}
use Rattle.networks.specs.Networks.{Networked}
use Rattle.networks.proofs.Grown.{has_of, room_of}
use Rattle.networks.proofs.network.Network.capacity.Goals as goal

pub capacity_at-requires : goal.capacity_at-requires
capacity_at-requires g c =
    let pipes = ap (λ (x : Networked g.row.M.Denot). x.pipes) c.self.view_is in
    let e : length c.deref.result.now ≡ length c.args.self.now.pipes =
    ap (λ (ls : List Link). length ls) (c.deref.ensures.value ∙ pipes) in
    let lt : c.args.pipe < length c.args.self.now.pipes =
    grind (arith, c.in-Some.ensures.lookup.0, e) in
    has_of c.self.inside.parts.nodes.items c.deref-in-Some.result.now
    c.self.inside.parts.pipes.items c.self.inside.parts.wires.items c.self.inside.parts.status
    c.self.inside.parts.most c.args.pipe c.args.self.now c.self.view_is c.self.invariant lt
    c.in-Some.link.now
    (c.in-Some.ensures.lookup.1
    ∙ ap (λ (ls : List Link). get_or ls c.args.pipe c.in-Some.link.now) c.deref.ensures.value)
    c.deref-in-Some.ensures.value

pub returns-in-Some : goal.returns-in-Some
returns-in-Some g c =
    let pipes = ap (λ (x : Networked g.row.M.Denot). x.pipes) c.self.view_is in
    let e : length c.deref.result.now ≡ length c.args.self.now.pipes =
    ap (λ (ls : List Link). length ls) (c.deref.ensures.value ∙ pipes) in
    let lt : c.args.pipe < length c.args.self.now.pipes =
    grind (arith, c.in-Some.ensures.lookup.0, e) in
    c.capacity_at.ensures
    ∙ room_of c.self.inside.parts.nodes.items c.deref-in-Some.result.now
    c.self.inside.parts.pipes.items c.self.inside.parts.wires.items c.self.inside.parts.status
    c.self.inside.parts.most c.args.pipe c.args.self.now c.self.view_is c.self.invariant lt
    c.in-Some.link.now
    (c.in-Some.ensures.lookup.1
    ∙ ap (λ (ls : List Link). get_or ls c.args.pipe c.in-Some.link.now) c.deref.ensures.value)
    c.deref-in-Some.ensures.value
