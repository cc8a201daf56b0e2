use Rattle.std.proofs.Common.{◌∙◌, Some, refl, arith}
use Rattle.tr_filter.proofs.lemmas.PressLaws.{press_quiet}
use Rattle.tr_filter.proofs.squeezing.squeeze.Goals as goal

pub loop-at-preserved-then-is_quiet : goal.loop-at-preserved-then-is_quiet
loop-at-preserved-then-is_quiet c =
    let s = c.args.squeezing.now in
    let l = c.loop-at in (
      omega (arith, l.invariant.0),
      omega (arith, c.if-len-at-gt-CHUNK.true),
      c.keep_chunk.ensures.long ∙ l.invariant.2,
      press_quiet (Some s.set) s.spans c.args.last c.args.bytes.now l.bytes c.keep_chunk.new.bytes
          l.kept l.at l.last s.covers
          (omega (arith, c.if-len-at-gt-CHUNK.true, c.requires, l.invariant.2))
          (omega (arith, l.invariant.0, l.invariant.1, c.requires, l.invariant.2))
          (λ k. (c.type_inv.bytes k).fits)
          (c.if-is_quiet.ensures.first refl)
          (c.if-is_quiet.ensures.apart refl)
          c.keep_chunk.ensures.moved c.keep_chunk.ensures.rest l.invariant.3,
    )
