use Rattle.std.proofs.Common.{ℕ, ◌<◌, List, length, refl, ap, sym, ◌∙◌, subst}
use Rattle.std.specs.List.{AllByRecursion}
use Rattle.network_laws.specs.Sequential.{status_at}
use Rattle.network_tests.specs.inner.Plans.{graph_of, contents_of}
use Rattle.network_tests.specs.declared.plan.SmallNode.TheVariants as is
use Rattle.network_tests.proofs.lemmas.ComputeLaws.{node_is, inputs_are_pipes, no_stage}
use Rattle.network_tests.proofs.lemmas.ComputeLaws.{stage_status}
use Rattle.network_tests.proofs.sequential.has_failed.Goals as goal

pub some_missing-requires-clause-inputs : goal.some_missing-requires-clause-inputs
some_missing-requires-clause-inputs g c =
    let e = node_is g.F.WholeFilter.whole c.args.plan.now c.args.node c.index.result.now
    (is.Stage c.in-Stage.filter c.in-Stage.inputs c.in-Stage.branches) c.requires.node
    c.index.ensures c.in-Stage.is in
    subst (λ (l : List ℕ). AllByRecursion (λ p. p < length c.args.plan.now.pipes.items) l)
    (sym c.as_slice.ensures.value)
    (inputs_are_pipes (graph_of g.F.WholeFilter.whole c.args.plan.now) c.args.node
    (g.F.WholeFilter.whole c.in-Stage.filter) c.in-Stage.inputs.items c.in-Stage.branches.items
    c.requires.plan e)

pub returns-in-Stage : goal.returns-in-Stage
returns-in-Stage g c held =
    let e = node_is g.F.WholeFilter.whole c.args.plan.now c.args.node c.index.result.now
    (is.Stage c.in-Stage.filter c.in-Stage.inputs c.in-Stage.branches) c.requires.node
    c.index.ensures c.in-Stage.is in
    stage_status (graph_of g.F.WholeFilter.whole c.args.plan.now)
    (contents_of c.args.contents.now) held c.args.node
    (g.F.WholeFilter.whole c.in-Stage.filter) c.in-Stage.inputs.items c.in-Stage.branches.items
    e
    c.as_slice.result.now c.some_missing.result c.as_slice.ensures.value
    (c.some_missing.ensures held)

pub returns-in_default : goal.returns-in_default
returns-in_default g c held =
    let graph = graph_of g.F.WholeFilter.whole c.args.plan.now in
    let e = node_is g.F.WholeFilter.whole c.args.plan.now c.args.node c.index.result.now
    c.index.result.now c.requires.node c.index.ensures refl in
    ap (status_at graph (contents_of c.args.contents.now) held) e
    ∙ no_stage g.F.WholeFilter.whole graph
    (contents_of c.args.contents.now) held c.index.result.now c.in_default.not-Stage
