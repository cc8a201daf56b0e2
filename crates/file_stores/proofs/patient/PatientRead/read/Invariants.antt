use Rattle.std.proofs.Common.{◌≡◌, length}
use Rattle.std.specs.Io.KnownBytes.{Keeps}
use Rattle.file_stores.specs.inner.Tries.{FailsForNow}
use Rattle.file_stores.proofs.patient.PatientRead.read.Given as goal

abbrev pub invariant-loop : goal.invariant-loop
invariant-loop g l = record {
  keeps : Keeps (g.F.Read.remaining l.fn.self.file) (g.F.Read.remaining l.self.file);
  room : length l.buf ≡ length l.fn.buf;
  again : FailsForNow (g.F.TryRead.failed l.fn.self.file) (g.F.TryRead.failed l.self.file);
}
