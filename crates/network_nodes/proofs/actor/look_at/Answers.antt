use Rattle.bounded_pipe.specs.Events.{SameWriting, SameReading}
use Rattle.network_nodes.proofs.lemmas.SplitLaws.{split_branch, split_input, split_ends}
use Rattle.network_nodes.proofs.lemmas.SplitLaws.{split_changes}
use Rattle.network_nodes.proofs.actor.look_at.Goals as goal

pub look_between-requires-clause-branch : goal.look_between-requires-clause-branch
look_between-requires-clause-branch g c =
    let split = c.split_at_mut-before in
    split_branch c.args.nodes.now split.result.0.now split.result.1.now c.args.link
    c.index-before-link.result c.index-after-0.result split.ensures.front split.ensures.back
    c.requires

pub look_between-requires-clause-input : goal.look_between-requires-clause-input
look_between-requires-clause-input g c =
    let split = c.split_at_mut-before in
    split_input c.args.nodes.now split.result.0.now split.result.1.now c.args.link
    c.index-before-link.result c.index-after-0.result split.ensures.front split.ensures.back
    c.requires

pub look_between-requires-clause-ends : goal.look_between-requires-clause-ends
look_between-requires-clause-ends g c =
    let split = c.split_at_mut-before in
    split_ends c.args.nodes.now split.result.0.now split.result.1.now c.args.link
    c.index-before-link.result c.index-after-0.result split.ensures.front split.ensures.back
    c.requires

pub returns : goal.returns
returns g c =
    let split = c.split_at_mut-before in
    split_changes c.args.nodes.now split.result.0.now split.result.1.now c.args.link
    c.index-before-link.result c.index-after-0.result split.ensures.front split.ensures.back
    c.requires SameWriting SameReading
    c.look_between.new.writer c.look_between.new.reader c.look_between.ensures.writer
    c.look_between.ensures.reader c.look_between.ensures.beside
