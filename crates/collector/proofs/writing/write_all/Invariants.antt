use Rattle.std.proofs.Common.{length, ◌-◌}
use Rattle.collector.proofs.Logs.{WrittenUpTo}
use Rattle.collector.proofs.writing.write_all.Given as goal

abbrev pub invariant-loop-at : goal.invariant-loop-at
invariant-loop-at g l = WrittenUpTo l.file l.bytes l.at (g.F.Files.shows l.initial.files)
    (g.F.Files.shows l.files)

abbrev pub decreases-loop-at : goal.decreases-loop-at
decreases-loop-at g l = length l.bytes - l.at
