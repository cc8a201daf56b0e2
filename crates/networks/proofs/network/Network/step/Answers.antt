use Rattle.std.proofs.Common.{◌≡◌, List, ap, ◌∙◌, sym, arith}
use Rattle.std.proofs.lemmas.List.{with_items_is}
use Rattle.network_nodes.specs.declared.actor.Actor.{Actor}
use Rattle.networks.specs.Networks.{Networked, part_of}
use Rattle.network_nodes.specs.inner.Actors.{actor_at}
use Rattle.network_laws.specs.State.{node_state_of}
use Rattle.networks.proofs.lemmas.Stepped.{leaves_of, within_of}
use Rattle.networks.proofs.network.Network.step.Goals as goal

pub step_at-requires-clause-within : goal.step_at-requires-clause-within
step_at-requires-clause-within g c =
    within_of c.self.inside.parts.nodes.items c.self.inside.parts.pipes.items
    c.self.inside.parts.wires.items c.self.inside.parts.status c.self.inside.parts.most c.args.node
    c.args.self.now c.self.view_is c.self.invariant c.requires.node c.index.result.now
    c.index.ensures c.deref.result.now c.deref.ensures.value c.deref-2.result.now
    c.deref-2.ensures.value

pub invariant_of-self : goal.invariant_of-self
invariant_of-self g c =
    let items = with_items_is c.self.inside.parts.nodes c.step_at.new.nodes
    (omega (arith, c.step_at.auto.nodes, c.deref_mut.ensures.len)) in
    let l = leaves_of c.self.inside.parts.nodes.items c.self.inside.parts.pipes.items
    c.self.inside.parts.wires.items c.self.inside.parts.status c.self.inside.parts.most
    c.args.node c.args.self.now c.self.view_is c.self.invariant c.requires.node
    c.index.result.now c.index.ensures c.deref.result.now c.deref.ensures.value
    c.deref-2.result.now c.deref-2.ensures.value g.M.Machine.shows c.deref_mut.result.now
    c.step_at.new.nodes _ (g.F.Files.shows c.args.files.now)
    (g.F.Files.shows c.step_at.new.files) c.step_at.result c.deref_mut.ensures.value items
    c.step_at.ensures.steps in
    l.joined

pub returns : goal.returns
returns g c =
    let items = with_items_is c.self.inside.parts.nodes c.step_at.new.nodes
    (omega (arith, c.step_at.auto.nodes, c.deref_mut.ensures.len)) in
    let l = leaves_of c.self.inside.parts.nodes.items c.self.inside.parts.pipes.items
    c.self.inside.parts.wires.items c.self.inside.parts.status c.self.inside.parts.most
    c.args.node c.args.self.now c.self.view_is c.self.invariant c.requires.node
    c.index.result.now c.index.ensures c.deref.result.now c.deref.ensures.value
    c.deref-2.result.now c.deref-2.ensures.value g.M.Machine.shows c.deref_mut.result.now
    c.step_at.new.nodes _ (g.F.Files.shows c.args.files.now)
    (g.F.Files.shows c.step_at.new.files) c.step_at.result c.deref_mut.ensures.value items
    c.step_at.ensures.steps in
    let same : c.args.self.now.nodes ≡ c.deref_mut.result.now =
    ap (λ (x : Networked g.row.M.Denot). x.nodes) (sym c.self.view_is)
    ∙ sym c.deref_mut.ensures.value in
    record {
      opened = l.opened c.requires.opened;
      right = l.right;
      step = record { step_is = l.step; says = l.says; state = l.state };
      own = l.own;
      same = l.same;
      halted = λ h. c.step_at.ensures.halted
          (λ r. h
          (ap (λ (xs : List (Actor g.row.M.Denot)). node_state_of
          (part_of g.M.Machine.shows (g.F.Files.shows c.args.files.now) (actor_at xs c.args.node)))
          same ∙ r));
    }
