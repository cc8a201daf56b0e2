use Rattle.network_tests.specs.inner.Plans.{graph_of, contents_of}
use Rattle.network_tests.proofs.lemmas.ComputeLaws.{HoldsAfter}
use Rattle.network_tests.proofs.sequential.sequential_answer.Given as goal

abbrev pub invariant-loop-node : goal.invariant-loop-node
invariant-loop-node g l = HoldsAfter l.node (graph_of g.F.WholeFilter.whole l.plan)
    (contents_of l.contents) l.held.items
