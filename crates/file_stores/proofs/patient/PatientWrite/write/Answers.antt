use Rattle.std.proofs.Common.{rules}
use Rattle.file_stores.proofs.lemmas.Tries.{one_more_tried}
use Rattle.file_stores.proofs.patient.PatientWrite.write.Goals as goal

pub loop-preserved : goal.loop-preserved
loop-preserved g c = record {
  keeps = search rules;
  again =
      one_more_tried _ _ _ c.in-Err.error c.loop.invariant.again c.in-Err.ensures.tried
      (c.allow.ensures (search rules));
}
