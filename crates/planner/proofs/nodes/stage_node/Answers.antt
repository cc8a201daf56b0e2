use Rattle.std.proofs.Common.{◌≡◌, ◌+◌, map, length, ap, ◌∙◌}
use Rattle.std.specs.List.{range_with_len}
use Rattle.commands.specs.Operands.{input_names}
use Rattle.commands.specs.declared.spec.FilterSpec.{FilterSpec}
use Rattle.planner.specs.declared.plan.Node.TheVariants as node
use Rattle.planner.specs.Places.{Stage}
use Rattle.planner.specs.Tables.{pipe_of_input, pipe_of_branch}
use Rattle.planner.proofs.lemmas.StageNodes.{stage_node_is}
use Rattle.planner.proofs.nodes.stage_node.Goals as goal

pub returns : goal.returns
returns c fifos =
    let s = c.args.stage in
    let ps = c.args.pipes.now in
    let ins = c.input_count.result in
    let outs = c.branch_count.result in
    let index : c.stage.inside.index ≡ s.index = ap (λ (v : Stage). v.index) c.stage.view_is in
    let filter : c.stage.inside.filter ≡ s.filter = ap (λ (v : Stage). v.filter) c.stage.view_is in
    let counted : ins ≡ length (input_names s.filter) = c.input_count.ensures
    ∙ ap (λ (f : FilterSpec). length (input_names f)) filter in
    let reads : c.from_vec.result ≡ map (pipe_of_input ps s.index) (range_with_len 0 ins) =
    c.from_vec.ensures
    ∙ (c.in_ok-inputs.ensures
    ∙ ap (λ k. map (pipe_of_input ps k) (range_with_len 0 ins)) index) in
    let writes : c.from_vec-2.result ≡ map (pipe_of_branch ps s.index) (range_with_len 0 outs) =
    c.from_vec-2.ensures
    ∙ (c.in_ok-branches.ensures
    ∙ ap (λ k. map (pipe_of_branch ps k) (range_with_len 0 outs)) index) in
    ap (λ k. node.Stage (k + 1) c.stage.inside.filter c.from_vec.result c.from_vec-2.result) index
    ∙ stage_node_is fifos ps s ins outs c.stage.inside.filter c.from_vec.result c.from_vec-2.result
    filter counted reads (c.branch_count.ensures fifos) writes
