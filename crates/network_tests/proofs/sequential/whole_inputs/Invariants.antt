use Rattle.std.proofs.Common.{◌≡◌, take}
use Rattle.network_laws.specs.Sequential.{missing_in, inputs_at}
use Rattle.network_tests.specs.inner.Plans.{graph_of, contents_of, whole_lists, list_at}
use Rattle.network_tests.proofs.sequential.whole_inputs.Given as goal

abbrev pub invariant-loop-pipe : goal.invariant-loop-pipe
invariant-loop-pipe g l = whole_lists l.whole.items
    ≡ inputs_at (graph_of g.F.WholeFilter.whole l.plan) (missing_in (contents_of l.contents))
    (list_at l.held) (take l.pipe-index l.inputs)
