-- If each node writes at most one pipe, the planned order shows that a plan is a forest.
use Rattle.std.proofs.Common.{ℕ, ⊎_elim, arith}
use Rattle.graphs.specs.Graph.{Graph, Writes, LeadsLater, IsPlan}
use Rattle.graphs.specs.Branches.{SingleBranchesAreForests}

-- in the planned order a pipe leads to a later node only from its writer
writes_it : (g : Graph) → IsPlan g → (k p : ℕ) → LeadsLater g (λ j. j) k p → Writes g k p
writes_it g plan k p later = ⊎_elim
    (λ w. w.0)
    (λ r. let b = plan.before p r.0.0 in absurd (omega (arith, b, r.0.1, r.1)))
    later

pub single_branches : SingleBranchesAreForests
single_branches g plan single = record {
  place = λ k. k;
  within = λ k l. l;
  apart = λ j k l m e. e;
  one_later = λ k p q a b. single k p q (writes_it g plan k p a) (writes_it g plan k q b);
}
