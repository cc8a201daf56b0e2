use Rattle.std.proofs.Common.{◌≤◌, ◌∙◌, ◌+◌, ℕ, get_or, sym, subst, refl, arith}
use Rattle.tr_filter.proofs.lemmas.TrLaws.{at_most_one_more}
use Rattle.tr_filter.proofs.lemmas.ThinLaws.{thin}
use Rattle.tr_filter.proofs.change.translate.Goals as goal

pub loop-i-preserved : goal.loop-i-preserved
loop-i-preserved c =
    let spec = c.args.spec.now in
    let l = c.loop-i in
    let k = c.is_kept-remains.result in (
      subst (λ (n : ℕ). n ≤ l.i + 1) (sym c.place-kept.ensures.next)
          (at_most_one_more k l.kept l.i l.invariant.0),
      c.place-kept.auto.bytes ∙ l.invariant.1,
      thin k spec c.args.bytes.now l.bytes c.place-kept.new.bytes l.kept c.place-kept.result l.i
          (get_or spec.table (get_or l.bytes l.i 0) 0) refl
          (omega (arith, c.loop-i-test.true, l.invariant.1))
          l.invariant.1
          l.invariant.2
          c.is_kept-remains.ensures c.place-kept.ensures.written c.place-kept.ensures.next,
    )
