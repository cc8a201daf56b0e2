use Rattle.std.proofs.Common.{◌≡◌}
use Rattle.lending.proofs.reads.count_waiting_writes.Given as goal

abbrev pub invariant-loop-file : goal.invariant-loop-file
invariant-loop-file g l = g.F.Files.shows l.files ≡ g.F.Files.shows l.fn.files
