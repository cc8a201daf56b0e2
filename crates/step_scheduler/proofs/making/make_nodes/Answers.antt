use Rattle.step_scheduler.proofs.lemmas.Numbered.{node_here, can_here, none_made, one_made_here}
use Rattle.step_scheduler.proofs.lemmas.Numbered.{all_made}
use Rattle.step_scheduler.proofs.making.make_nodes.Goals as goal

pub loop-number-init : goal.loop-number-init
loop-number-init c = none_made c.args.plan.now c.args.opened.now c.new-nodes.result.items
    c.new-nodes.ensures.items

pub make_node-requires : goal.make_node-requires
make_node-requires c =
    let there = node_here c.args.plan.now c.order-number-end.result.now c.order.result.now
    c.loop-number.number c.index-order-number.result c.order-number-end.ensures c.order.ensures
    c.loop-number-test.true c.index-order-number.is in
    can_here c.args.plan.now c.args.opened.now c.loop-number.number c.index-order-number.result
    c.file-file.result c.requires there c.file-file.ensures

pub loop-number-preserved : goal.loop-number-preserved
loop-number-preserved c =
    let there = node_here c.args.plan.now c.order-number-end.result.now c.order.result.now
    c.loop-number.number c.index-order-number.result c.order-number-end.ensures c.order.ensures
    c.loop-number-test.true c.index-order-number.is in
    one_made_here c.args.plan.now c.args.opened.now c.loop-number.nodes.items c.push.new.self.items
    c.loop-number.number c.index-order-number.result c.in_ok-node.node c.file-file.result
    c.loop-number.invariant there c.file-file.ensures c.in_ok-node.ensures
    c.in_ok-push.ensures.items

pub returns : goal.returns
returns c = all_made c.args.plan.now c.args.opened.now c.loop-number.nodes.items
    c.loop-number.number c.order-number-end.result.now c.loop-number.invariant
    c.order-number-end.ensures c.loop-number.auto.number-end c.loop-number-test.false
