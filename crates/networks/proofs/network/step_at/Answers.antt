use Rattle.networks.proofs.Acted.{moved_wired, moved_ends, moved_steps}
use Rattle.networks.proofs.network.step_at.Goals as goal

pub look_each-requires-clause-wired : goal.look_each-requires-clause-wired
look_each-requires-clause-wired g c =
    moved_wired g.M.Machine.shows c.args.nodes.now c.args.node c.index-nodes-node.result
    c.act-step.new.actor (g.F.Files.shows c.args.files.now)
    (g.F.Files.shows c.act-step.new.files) c.act-step.result c.requires.node
    c.act-step.ensures.acts c.args.pipes.now c.requires.wired

pub look_each-requires-clause-ends : goal.look_each-requires-clause-ends
look_each-requires-clause-ends g c =
    moved_ends g.M.Machine.shows c.args.nodes.now c.args.node c.index-nodes-node.result
    c.act-step.new.actor (g.F.Files.shows c.args.files.now)
    (g.F.Files.shows c.act-step.new.files) c.act-step.result c.requires.node
    c.act-step.ensures.acts c.args.pipes.now c.requires.ends

pub returns-clause-steps : goal.returns-clause-steps
returns-clause-steps g c =
    moved_steps g.M.Machine.shows c.args.nodes.now c.args.node c.index-nodes-node.result
    c.act-step.new.actor (g.F.Files.shows c.args.files.now)
    (g.F.Files.shows c.act-step.new.files) c.act-step.result c.requires.node
    c.act-step.ensures.acts c.args.pipes.now c.args.wires.now c.look_each.new.nodes
    c.look_each.ensures
