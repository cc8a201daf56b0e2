use Rattle.std.proofs.Common.{◌-◌, arith, None}
use Rattle.openings.proofs.lemmas.NoteLaws.{input_noted}
use Rattle.openings.proofs.tables.note_inputs.Goals as goal

pub loop-place-preserved : goal.loop-place-preserved
loop-place-preserved c = record {
  within = omega arith;
  count = omega arith;
  noted = λ k h. input_noted c.args.openings.now c.args.answers.now c.loop-place.place
      (c.loop-place.place - 1) c.index-openings-place.result None
      (omega arith) c.loop-place.invariant.within c.requires
      k _ _ _ (c.loop-place.invariant.noted k (omega (arith, h)))
      (c.note.ensures.noted k (omega (arith, h)));
}
