use Rattle.std.proofs.Common.{◌≡◌, ◌-◌, List, length, ap, ap₂, ◌∙◌}
use Rattle.planner.specs.declared.plan.NodeName.TheVariants.{StageAt}
use Rattle.planner.specs.Openings.{opened_inputs, opened_outputs}
use Rattle.planner.specs.Places.{Stage}
use Rattle.planner.specs.Planned.{Planned, joined, plan_of}
use Rattle.planner.specs.Tables.{names_of, number_of, pipes_of}
use Rattle.planner.proofs.lemmas.MadePlan.{if_ok_more, rising, put_together}
use Rattle.planner.proofs.make.plan_in_order.Goals as goal

pub nodes-requires-clause-planned : goal.nodes-requires-clause-planned
nodes-requires-clause-planned c = (joined c.args.fifos.now c.args.stages.items, c.requires.planned)

pub nodes-requires-clause-pipes : goal.nodes-requires-clause-pipes
nodes-requires-clause-pipes c =
    c.as_slice-pipes.ensures.value
    ∙ (c.in_ok-pipes.ensures
    ∙ ap₂ (λ i o. pipes_of i o c.args.order.now) c.as_slice-reading.ensures.value
    c.as_slice-writing.ensures.value)

pub new-requires : goal.new-requires
new-requires c =
    let names = c.as_slice-names.ensures.value
    ∙ (c.in_ok-names.ensures
    ∙ ap₂ (λ i o. names_of i o c.args.order.now) c.as_slice-reading.ensures.value
    c.as_slice-writing.ensures.value) in
    let pipes = c.as_slice-pipes.ensures.value
    ∙ (c.in_ok-pipes.ensures
    ∙ ap₂ (λ i o. pipes_of i o c.args.order.now) c.as_slice-reading.ensures.value
    c.as_slice-writing.ensures.value) in
    rising c.args.fifos.now c.args.stages.items c.args.order.now c.in_ok-nodes.nodes.items
    c.as_slice-pipes.result.now c.as_slice-names.result.now c.in_ok-ends.ends.items
    c.args.ins.items c.args.outs.items c.requires.turn c.requires.planned c.requires.ins
    c.requires.outs names pipes (c.in_ok-nodes.ensures c.args.fifos.now) c.in_ok-ends.ensures

pub returns : goal.returns
returns c =
    let fifos = c.args.fifos.now in
    let ss = c.args.stages.items in
    let named = c.as_slice-names.result.now in
    let lent = c.as_slice-lent.ensures.value in
    let names = c.as_slice-names.ensures.value
    ∙ (c.in_ok-names.ensures
    ∙ ap₂ (λ i o. names_of i o c.args.order.now) c.as_slice-reading.ensures.value
    c.as_slice-writing.ensures.value) in
    let pipes = c.as_slice-pipes.ensures.value
    ∙ (c.in_ok-pipes.ensures
    ∙ ap₂ (λ i o. pipes_of i o c.args.order.now) c.as_slice-reading.ensures.value
    c.as_slice-writing.ensures.value) in
    let inputs = c.in_ok-inputs.ensures ∙ ap (opened_inputs fifos named) lent in
    let outputs = c.in_ok-outputs.ensures ∙ ap (opened_outputs fifos named) lent in
    let parts : Planned =
    record {
      nodes = c.in_ok-nodes.nodes.items;
      pipes = c.in_ok-ends.ends.items;
      inputs = c.in_ok-inputs.inputs.items;
      outputs = c.in_ok-outputs.outputs.items;
      result = (c.number_of.result, c.args.negated);
    } in
    let last = c.number_of.ensures
    ∙ (ap (λ k. number_of named (StageAt k)) c.saturating_sub.ensures
    ∙ ap (λ (us : List Stage). number_of named (StageAt (length us - 1))) lent) in
    let same =
    put_together fifos ss c.args.order.now c.args.negated c.in_ok-nodes.nodes.items
    c.as_slice-pipes.result.now named c.in_ok-ends.ends.items c.in_ok-inputs.inputs.items
    c.in_ok-outputs.outputs.items c.number_of.result c.args.ins.items c.args.outs.items
    c.requires.ins c.requires.outs names pipes (c.in_ok-nodes.ensures fifos) c.in_ok-ends.ensures
    inputs outputs last in
    if_ok_more (λ plan. plan ≡ parts) (λ plan. plan
    ≡ plan_of fifos ss c.args.negated c.args.order.now) c.new.result (λ plan e. e
    ∙ same) c.new.ensures
