use Rattle.std.proofs.Common.{ℕ, ◌<◌, ◌≤◌}
use Rattle.graphs.specs.inner.Rows.{links_at}
use Rattle.graphs.specs.inner.StripSteps.{IsOpen}
use Rattle.graphs.proofs.stripping.next_bare.Given as goal

abbrev pub invariant-loop-k : goal.invariant-loop-k
invariant-loop-k l = (t : ℕ) → l.fn.from ≤ t → t < l.k → IsOpen l.most (links_at l.links) l.marks t
    → ⊥
