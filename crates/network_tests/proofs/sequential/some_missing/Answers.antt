use Rattle.std.proofs.Common.{sym, ◌∙◌}
use Rattle.network_laws.specs.Sequential.{missing_in}
use Rattle.network_tests.specs.inner.Plans.{graph_of, contents_of}
use Rattle.network_tests.proofs.lemmas.ComputeLaws.{one_missing, none_missing_more}
use Rattle.network_tests.proofs.lemmas.ComputeLaws.{none_missing_all}
use Rattle.network_tests.proofs.sequential.some_missing.Goals as goal

pub returns-then-is_missing : goal.returns-then-is_missing
returns-then-is_missing g c held =
    sym (one_missing (graph_of g.F.WholeFilter.whole c.args.plan.now)
    (missing_in (contents_of c.args.contents.now)) held c.args.inputs.now c.loop-pipe.pipe-index
    c.loop-pipe-test.true (sym c.is_missing.ensures ∙ c.if-is_missing.true))

pub loop-pipe-preserved : goal.loop-pipe-preserved
loop-pipe-preserved g c held = none_missing_more (graph_of g.F.WholeFilter.whole c.args.plan.now)
    (missing_in (contents_of c.args.contents.now)) held c.args.inputs.now c.loop-pipe.pipe-index
    c.loop-pipe-test.true (c.loop-pipe.invariant held) (sym c.is_missing.ensures
    ∙ c.if-is_missing.false)

pub returns : goal.returns
returns g c held =
    sym (none_missing_all (graph_of g.F.WholeFilter.whole c.args.plan.now)
    (missing_in (contents_of c.args.contents.now)) held c.args.inputs.now c.loop-pipe.pipe-index
    c.loop-pipe-test.false (c.loop-pipe.invariant held))
