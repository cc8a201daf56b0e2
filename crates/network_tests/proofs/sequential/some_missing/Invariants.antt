use Rattle.std.proofs.Common.{◌≡◌, ℕ, List, false, take}
use Rattle.machine.specs.Whole.{is_some_missing}
use Rattle.network_laws.specs.Sequential.{missing_in, inputs_at}
use Rattle.network_tests.specs.inner.Plans.{graph_of, contents_of}
use Rattle.network_tests.proofs.sequential.some_missing.Given as goal

abbrev pub invariant-loop-pipe : goal.invariant-loop-pipe
invariant-loop-pipe g l = (held : ℕ → List ℕ)
    → is_some_missing (inputs_at (graph_of g.F.WholeFilter.whole l.plan)
    (missing_in (contents_of l.contents)) held (take l.pipe-index l.inputs)) ≡ false
