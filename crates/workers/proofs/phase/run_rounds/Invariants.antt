use Rattle.std.proofs.Common.{◌≡◌}
use Rattle.lending.specs.inner.Loans.{RunsFiles}
use Rattle.workers.proofs.phase.run_rounds.Given as goal

abbrev pub invariant-loop : goal.invariant-loop
invariant-loop g l = record {
  runs : RunsFiles g.M.Machine.shows (g.F.Files.shows l.fn.files)
      (g.F.Files.shows l.files) l.fn.network l.network;
  sound : (g.F.Files.shows l.files).failures ≡ (g.F.Files.shows l.fn.files).failures;
}
