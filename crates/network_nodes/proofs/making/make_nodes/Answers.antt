use Rattle.std.proofs.Common.{ℕ, List, map, length, arith, ap, subst, sym, ◌∙◌}
use Rattle.std.specs.Vec.Iter.{into_iter_items}
use Rattle.std.proofs.lemmas.List.{length_push}
use Rattle.network_nodes.specs.inner.MadeNodes.{wires_at, AreLinks}
use Rattle.network_nodes.proofs.lemmas.FillLaws.{UpTo, asks_at, up_to_none, up_next, all_made}
use Rattle.network_nodes.proofs.lemmas.FillLaws.{split_here, split_next, split_end}
use Rattle.network_nodes.proofs.making.make_nodes.Goals as goal

pub loop-node-init : goal.loop-node-init
loop-node-init g c = (
  _,
  _,
  (let g = c.into_iter-node-iterator.ensures.into_iter_gives in let l = ap length g.0 in
      omega (arith, g.1, l, c.args.nodes.ok.0)),
  c.into_iter-node-iterator.ensures.into_iter_gives.0,
  up_to_none g.M.Machine.shows c.args.settings.block c.args.nodes.items c.args.pipes.now
      (map (λ v. v.items) c.args.wires.now) c.args.writers.items c.args.readers.items c.requires.own
      c.requires.opened c.in_ok-branches.branches.items c.in_ok-inputs.inputs.items
      c.new-actors.result.items
      (omega (arith, c.in_ok-branches.ensures.len, c.in_ok-branches.branches.ok.0))
      (omega (arith, c.in_ok-inputs.ensures.len, c.in_ok-inputs.inputs.ok.0))
      c.new-actors.ensures.items,
)

pub make_node-requires : goal.make_node-requires
make_node-requires g c =
    let a = asks_at g.M.Machine.shows c.args.settings.block c.args.nodes.items c.args.pipes.now
    (map (λ v. v.items) c.args.wires.now) c.args.writers.items c.args.readers.items
    c.requires.own c.requires.opened (length c.loop-node.yielded) c.loop-node.writers.items
    c.loop-node.readers.items c.loop-node.branches.items c.loop-node.inputs.items
    c.loop-node.actors.items c.loop-node.invariant.4 c.in-Some.node
    (split_here c.loop-node.yielded (into_iter_items c.loop-node.node-iterator)
    (into_iter_items c.next.new.self) c.args.nodes.items c.in-Some.node c.loop-node.invariant.3
    c.in-Some.ensures.steps.0) c.wire_at-wire.result.now (c.wire_at-wire.ensures
    ∙ ap (λ (k : ℕ). wires_at (map (λ v. v.items) c.args.wires.now) k)
    (let up = c.loop-node.invariant.4 in let u = up.count in
    omega (arith, u, c.loop-node.actors.ok.0, c.len.ensures))) in
    record {
      ready = a.ready;
      outs = a.outs;
      ins = a.ins;
    }

pub loop-node-preserved : goal.loop-node-preserved
loop-node-preserved g c =
    let m = c.in_ok-actor.ensures in
    let up = up_next g.M.Machine.shows c.args.settings.block c.args.nodes.items c.args.pipes.now
    (map (λ v. v.items) c.args.wires.now) c.args.writers.items c.args.readers.items
    c.requires.own c.requires.opened (length c.loop-node.yielded) c.loop-node.writers.items
    c.loop-node.readers.items c.loop-node.branches.items c.loop-node.inputs.items
    c.loop-node.actors.items c.loop-node.invariant.4 c.in-Some.node
    (split_here c.loop-node.yielded (into_iter_items c.loop-node.node-iterator)
    (into_iter_items c.next.new.self) c.args.nodes.items c.in-Some.node c.loop-node.invariant.3
    c.in-Some.ensures.steps.0) c.in_ok-actor.actor c.make_node.new.writers.items
    c.make_node.new.readers.items c.make_node.new.branches.items c.make_node.new.inputs.items
    c.push.new.self.items c.wire_at-wire.result.now (c.wire_at-wire.ensures
    ∙ ap (λ (k : ℕ). wires_at (map (λ v. v.items) c.args.wires.now) k)
    (let up = c.loop-node.invariant.4 in let u = up.count in
    omega (arith, u, c.loop-node.actors.ok.0, c.len.ensures)))
    (record { made = m.made; outs = m.outs; ins = m.ins }) c.in_ok-push.ensures.items in (
      _,
      _,
      (let st = c.in-Some.ensures.steps in let l = ap length st.0 in
          omega (arith, st.1, l, c.loop-node.invariant.2)),
      split_next c.loop-node.yielded (into_iter_items c.loop-node.node-iterator)
          (into_iter_items c.next.new.self) c.args.nodes.items c.in-Some.node c.loop-node.invariant.3
          c.in-Some.ensures.steps.0,
      subst (λ (k : ℕ). UpTo g.M.Machine.shows c.args.settings.block c.args.nodes.items
          c.args.pipes.now (map (λ v. v.items) c.args.wires.now) c.args.writers.items
          c.args.readers.items k c.make_node.new.writers.items c.make_node.new.readers.items
          c.make_node.new.branches.items c.make_node.new.inputs.items c.push.new.self.items)
          (sym (length_push c.loop-node.yielded c.in-Some.node)) up,
    )

pub returns : goal.returns
returns g c = record {
  branches = c.loop-node.branches.items;
  inputs = c.loop-node.inputs.items;
  made = all_made g.M.Machine.shows c.args.settings.block c.args.nodes.items c.args.pipes.now
      (map (λ v. v.items) c.args.wires.now) c.args.writers.items c.args.readers.items c.requires.own
      c.requires.opened (length c.loop-node.yielded) c.loop-node.writers.items
      c.loop-node.readers.items c.loop-node.branches.items c.loop-node.inputs.items
      c.loop-node.actors.items c.loop-node.invariant.4
      (split_end c.loop-node.yielded (into_iter_items c.loop-node.node-iterator) c.args.nodes.items
      c.loop-node.invariant.3 (omega (arith, c.loop-node.invariant.2, c.in-None.ensures.steps.0)));
  links_are =
      subst (λ (xs : List ℕ). AreLinks c.args.pipes.now xs c.loop-node.inputs.items
      c.in_ok-links.links.items) c.as_slice.ensures.value
      (subst (λ (xs : List ℕ). AreLinks c.args.pipes.now c.as_slice.result.now xs
      c.in_ok-links.links.items) c.as_slice-2.ensures.value c.in_ok-links.ensures);
}
