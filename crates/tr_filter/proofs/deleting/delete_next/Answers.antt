use Rattle.std.proofs.Common.{◌∙◌, arith}
use Rattle.tr_filter.specs.inner.Nibbles.{is_left}
use Rattle.tr_filter.proofs.lemmas.ThinLaws.{thin_part}
use Rattle.tr_filter.proofs.deleting.delete_next.Goals as goal

pub loop-at-preserved : goal.loop-at-preserved
loop-at-preserved c =
    let d = c.args.deleting.now in
    let l = c.loop-at in
    let kept = c.keep_sixteen-kept in (
      omega (arith, kept.ensures.within, l.invariant.0),
      omega (arith, c.loop-at-test.true, l.invariant.1),
      kept.ensures.long ∙ l.invariant.2,
      λ xs same t.
          thin_part d.spec (is_left d.nibbles) xs l.bytes kept.new.bytes l.kept kept.result l.at 16
          d.plain d.leaves
          (λ k h. kept.ensures.fit k)
          kept.ensures.made kept.ensures.rest kept.ensures.within (l.invariant.3 xs same t),
    )
