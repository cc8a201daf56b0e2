use Rattle.std.proofs.Common.{◌≡◌}
use Rattle.lending.specs.inner.Loans.{StepsApart}
use Rattle.lending.proofs.apart.step_on.Given as goal

abbrev pub invariant-loop-again : goal.invariant-loop-again
invariant-loop-again g l = record {
  steps : StepsApart g.M.Machine.shows (g.F.Files.shows l.fn.files)
      (g.F.Files.shows l.files) l.fn.nodes l.nodes;
  sound : (let f = g.F.Files.shows l.files in f.failures)
      ≡ (let f = g.F.Files.shows l.fn.files in f.failures);
}
