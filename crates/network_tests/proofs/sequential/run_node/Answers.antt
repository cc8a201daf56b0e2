use Rattle.std.proofs.Common.{◌≡◌, ℕ, ◌<◌, List, length, IfOk, ap, sym, ◌∙◌, subst}
use Rattle.std.specs.List.{AllByRecursion}
use Rattle.network_laws.specs.Sequential.{output_of}
use Rattle.network_tests.specs.inner.Plans.{graph_of, contents_of, whole_lists, list_at}
use Rattle.network_tests.specs.declared.plan.SmallNode.TheVariants as is
use Rattle.network_tests.proofs.lemmas.ComputeLaws.{node_is, inputs_are_pipes, stage_gives}
use Rattle.network_tests.proofs.sequential.run_node.Goals as goal

pub whole_inputs-requires-clause-inputs : goal.whole_inputs-requires-clause-inputs
whole_inputs-requires-clause-inputs g c =
    let e = node_is g.F.WholeFilter.whole c.args.plan.now c.args.node c.index.result.now
    (is.Stage c.in-Stage.filter c.in-Stage.inputs c.in-Stage.branches) c.requires.node
    c.index.ensures c.in-Stage.is in
    subst (λ (l : List ℕ). AllByRecursion (λ p. p < length c.args.plan.now.pipes.items) l)
    (sym c.as_slice.ensures.value)
    (inputs_are_pipes (graph_of g.F.WholeFilter.whole c.args.plan.now) c.args.node
    (g.F.WholeFilter.whole c.in-Stage.filter) c.in-Stage.inputs.items c.in-Stage.branches.items
    c.requires.plan e)

pub returns-in-EmptySource : goal.returns-in-EmptySource
returns-in-EmptySource g c =
    let e = node_is g.F.WholeFilter.whole c.args.plan.now c.args.node c.index.result.now
    is.EmptySource c.requires.node c.index.ensures c.in-EmptySource.is in
    c.new.ensures.items
    ∙ sym
    (ap (output_of (graph_of g.F.WholeFilter.whole c.args.plan.now)
    (contents_of c.args.contents.now) (list_at c.args.held.now) c.args.node) e)

pub returns-in-Sink : goal.returns-in-Sink
returns-in-Sink g c =
    let e = node_is g.F.WholeFilter.whole c.args.plan.now c.args.node c.index.result.now is.Sink
    c.requires.node c.index.ensures c.in-Sink.is in
    c.new-in-Sink.ensures.items
    ∙ sym
    (ap (output_of (graph_of g.F.WholeFilter.whole c.args.plan.now)
    (contents_of c.args.contents.now) (list_at c.args.held.now) c.args.node) e)

pub returns-in-Source : goal.returns-in-Source
returns-in-Source g c =
    let e = node_is g.F.WholeFilter.whole c.args.plan.now c.args.node c.index.result.now is.Source
    c.requires.node c.index.ensures c.in-Source.is in
    subst (λ (l : List ℕ). IfOk c.content.result (λ out. out.items ≡ l))
    (sym
    (ap (output_of (graph_of g.F.WholeFilter.whole c.args.plan.now)
    (contents_of c.args.contents.now) (list_at c.args.held.now) c.args.node) e))
    c.content.ensures

pub returns-in_ok-whole-in-Stage : goal.returns-in_ok-whole-in-Stage
returns-in_ok-whole-in-Stage g c =
    let e = node_is g.F.WholeFilter.whole c.args.plan.now c.args.node c.index.result.now
    (is.Stage c.in-Stage.filter c.in-Stage.inputs c.in-Stage.branches) c.requires.node
    c.index.ensures c.in-Stage.is in
    subst (λ (l : List ℕ). IfOk c.run_whole.result (λ out. out.items ≡ l))
    (stage_gives (graph_of g.F.WholeFilter.whole c.args.plan.now) (contents_of c.args.contents.now)
    (list_at c.args.held.now) c.args.node
    (g.F.WholeFilter.whole c.in-Stage.filter) c.in-Stage.inputs.items c.in-Stage.branches.items
    e
    c.as_slice.result.now (whole_lists c.as_slice-in-Stage.result.now)
    (whole_lists c.in_ok-whole-in-Stage.whole.items) c.as_slice.ensures.value
    c.in_ok-whole-in-Stage.ensures (ap whole_lists c.as_slice-in-Stage.ensures.value))
    c.run_whole.ensures
