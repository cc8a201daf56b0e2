use Rattle.std.proofs.Common.{ap, sym, ◌∙◌}
use Rattle.network_laws.specs.Sequential.{answer, negated}
use Rattle.network_tests.specs.inner.Plans.{graph_of, contents_of}
use Rattle.network_tests.proofs.sequential.status.Goals as goal

pub returns : goal.returns
returns g c =
    let graph = graph_of g.F.WholeFilter.whole c.args.plan.now in
    let contents = contents_of c.args.contents.now in
    c.status_under.ensures
    ∙ sym (ap (negated c.args.plan.now.result.1) (c.has_failed.ensures (answer graph contents)))
