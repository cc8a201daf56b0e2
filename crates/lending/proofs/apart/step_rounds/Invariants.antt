use Rattle.std.proofs.Common.{◌≡◌}
use Rattle.lending.specs.inner.Loans.{StepsApart}
use Rattle.lending.proofs.apart.step_rounds.Given as goal

abbrev pub invariant-loop-round : goal.invariant-loop-round
invariant-loop-round g l = record {
  steps : StepsApart g.M.Machine.shows (g.F.Files.shows l.fn.files)
      (g.F.Files.shows l.files) l.fn.nodes l.nodes;
  sound : (let f = g.F.Files.shows l.files in f.failures)
      ≡ (let f = g.F.Files.shows l.fn.files in f.failures);
}
