use Rattle.std.proofs.Common.{◌≡◌, length, ap, ◌∙◌, arith}
use Rattle.network_tests.specs.inner.Plans.{graph_of, graph_node, contents_of}
use Rattle.network_tests.proofs.lemmas.ComputeLaws.{holds_more, holds_all, map_long, given_all}
use Rattle.network_tests.proofs.lemmas.ComputeLaws.{output_held}
use Rattle.network_tests.proofs.sequential.sequential_answer.Goals as goal

pub loop-node-preserved : goal.loop-node-preserved
loop-node-preserved g c =
    let graph = graph_of g.F.WholeFilter.whole c.args.plan.now in
    let count : length c.give.new.held.items ≡ length c.args.plan.now.pipes.items =
    c.in_ok-give.ensures.count ∙ ap length c.as_slice-in-loop-node.ensures.value in
    holds_more graph (contents_of c.args.contents.now) c.requires.plan c.loop-node.node
    c.loop-node.held.items c.give.new.held.items c.in_ok-out.out.items c.loop-node.invariant
    (output_held graph (contents_of c.args.contents.now) c.loop-node.node c.as_slice.result.now
    c.loop-node.held.items c.in_ok-out.out.items c.as_slice.ensures.value c.in_ok-out.ensures)
    count
    (given_all c.loop-node.node c.as_slice-in-loop-node.result.now c.args.plan.now.pipes.items
    c.as_slice-in-loop-node-2.result.now c.in_ok-out.out.items c.loop-node.held.items
    c.give.new.held.items c.as_slice-in-loop-node.ensures.value
    c.as_slice-in-loop-node-2.ensures.value c.in_ok-give.ensures.given)

pub returns-clause-pipes : goal.returns-clause-pipes
returns-clause-pipes g c =
    let n = length c.args.plan.now.nodes.items in
    let end : c.loop-node.node ≡ n = omega (arith, c.len-node-end.ensures) in
    holds_all (graph_of g.F.WholeFilter.whole c.args.plan.now)
    (contents_of c.args.contents.now) c.requires.plan c.loop-node.node c.loop-node.held.items
    c.loop-node.invariant
    (end ∙ map_long (graph_node g.F.WholeFilter.whole) c.args.plan.now.nodes.items)
