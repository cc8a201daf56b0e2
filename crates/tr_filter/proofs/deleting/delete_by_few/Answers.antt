use Rattle.std.proofs.Common.{◌∙◌, refl, arith}
use Rattle.tr_filter.specs.inner.FewSpans.{in_few}
use Rattle.tr_filter.proofs.lemmas.ThinLaws.{thin_quiet}
use Rattle.tr_filter.proofs.deleting.delete_by_few.Goals as goal

pub loop-at-preserved-then-has_none_of : goal.loop-at-preserved-then-has_none_of
loop-at-preserved-then-has_none_of c =
    let d = c.args.deleting.now in
    let l = c.loop-at in
    let none = c.if-has_none_of.ensures refl in (
      omega (arith, l.invariant.0),
      omega (arith, c.keep_chunk.ensures.long, c.if-bytes-at-ge-CHUNK.true),
      c.keep_chunk.ensures.long ∙ l.invariant.2,
      thin_quiet d.spec (in_few c.args.few) c.args.bytes.now l.bytes c.keep_chunk.new.bytes l.kept
          l.at d.plain c.requires
          (omega (arith, c.if-bytes-at-ge-CHUNK.true, l.invariant.1))
          (omega (arith, l.invariant.0, l.invariant.1))
          (λ k. (c.type_inv.bytes k).fits)
          (λ k h. none k 0 h)
          c.keep_chunk.ensures.moved c.keep_chunk.ensures.rest l.invariant.3,
      omega arith,
    )
