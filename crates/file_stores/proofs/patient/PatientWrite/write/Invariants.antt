use Rattle.std.specs.Io.KnownBytes.{Keeps}
use Rattle.file_stores.specs.inner.Tries.{FailsForNow}
use Rattle.file_stores.proofs.patient.PatientWrite.write.Given as goal

abbrev pub invariant-loop : goal.invariant-loop
invariant-loop g l = record {
  keeps : Keeps (g.F.Write.contents l.fn.self.file) (g.F.Write.contents l.self.file);
  again : FailsForNow (g.F.TryWrite.failed l.fn.self.file) (g.F.TryWrite.failed l.self.file);
}
