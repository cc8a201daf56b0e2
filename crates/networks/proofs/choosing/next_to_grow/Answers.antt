use Rattle.std.proofs.Common.{◌≡◌, length, List, ap, subst, arith}
use Rattle.network_nodes.specs.declared.actor.Actor.{Actor}
use Rattle.networks.specs.Networks.{state_by}
use Rattle.networks.specs.inner.Candidates.{IsWithin, IsFirst}
use Rattle.networks.proofs.lemmas.ChoiceLaws.{sooner_first, sooner_within, next_none, next_some}
use Rattle.networks.proofs.choosing.next_to_grow.Goals as goal

pub loop-node-preserved : goal.loop-node-preserved
loop-node-preserved g c = record {
  within = sooner_within (IsWithin c.args.nodes.now c.args.pipes.now c.args.most) c.loop-node.next
      c.candidate_of.result c.sooner-next.result c.loop-node.invariant.within
      c.candidate_of.ensures.within c.sooner-next.ensures;
  first = λ s files n en ep em right.
      sooner_first s (state_by g.M.Machine.shows c.args.nodes.now c.args.pipes.now files)
      c.loop-node.node c.loop-node.next c.candidate_of.result c.sooner-next.result
      (c.loop-node.invariant.first s files n en ep em right)
      (c.candidate_of.ensures.exact s files n en ep em right) c.sooner-next.ensures;
}

pub returns-in-Some-clause-next : goal.returns-in-Some-clause-next
returns-in-Some-clause-next g c = λ s files n en ep em right.
    let st = state_by g.M.Machine.shows c.args.nodes.now c.args.pipes.now files in
    let of = right.graph in
    let e : length n.nodes ≡ length c.args.nodes.now =
    ap (λ (xs : List (Actor g.row.M.Denot)). length xs) en in
    next_some s st c.loop-node.node
    (omega (arith, c.loop-node-test.false, c.loop-node.auto.node-end, of.count, e))
    c.in-Some.found
    (subst (IsFirst s st c.loop-node.node) c.in-Some.is
    (c.loop-node.invariant.first s files n en ep em right))

pub returns-in-None-clause-next : goal.returns-in-None-clause-next
returns-in-None-clause-next g c = λ s files n en ep em right.
    let st = state_by g.M.Machine.shows c.args.nodes.now c.args.pipes.now files in
    let of = right.graph in
    let e : length n.nodes ≡ length c.args.nodes.now =
    ap (λ (xs : List (Actor g.row.M.Denot)). length xs) en in
    next_none s st c.loop-node.node
    (omega (arith, c.loop-node-test.false, c.loop-node.auto.node-end, of.count, e))
    (subst (IsFirst s st c.loop-node.node) c.in-None.is
    (c.loop-node.invariant.first s files n en ep em right))
