use Rattle.std.proofs.Common.{◌≤◌, ◌∙◌, ◌+◌, ℕ, get_or, ap, sym, subst, cond, Bool, Some, arith}
use Rattle.tr_words.specs.Tr.{stays}
use Rattle.tr_filter.proofs.lemmas.TrLaws.{at_most_one_more}
use Rattle.tr_filter.proofs.lemmas.PressLaws.{press}
use Rattle.tr_filter.proofs.squeezing.squeeze_part.Goals as goal

pub loop-i-preserved : goal.loop-i-preserved
loop-i-preserved c =
    let l = c.loop-i in
    let set = c.args.set.now in
    let next = c.place-kept.ensures.next
    ∙ ap (λ (b : Bool). cond {A = ℕ} b (l.kept + 1) l.kept) c.stays.ensures in (
      subst (λ (n : ℕ). n ≤ l.i + 1) (sym next)
          (at_most_one_more (stays (Some set) (l.last, get_or l.bytes l.i 0)) l.kept l.i
          l.invariant.0),
      c.place-kept.auto.bytes ∙ l.invariant.1,
      λ before xs same t.
          press (Some set) before xs l.bytes c.place-kept.new.bytes l.kept c.place-kept.result l.i
          l.last
          (omega (arith, same, c.loop-i-test.true, c.requires.within, l.invariant.1))
          (omega (arith, same, l.invariant.1))
          (l.invariant.2 before xs same t)
          c.place-kept.ensures.written next,
    )
