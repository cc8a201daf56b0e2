use Rattle.std.proofs.Common.{◌≤◌, ◌∙◌, ◌+◌, ℕ, get_or, ap, sym, subst, Bool, not, false, List}
use Rattle.std.proofs.Common.{Option, arith}
use Rattle.tr_words.specs.Tr.{in_set}
use Rattle.tr_filter.proofs.lemmas.TrLaws.{at_most_one_more}
use Rattle.tr_filter.proofs.lemmas.ThinLaws.{thin}
use Rattle.tr_filter.proofs.deleting.delete_part.Goals as goal

pub loop-i-preserved : goal.loop-i-preserved
loop-i-preserved c =
    let d = c.args.deleting.now in
    let l = c.loop-i in
    let x = get_or l.bytes l.i 0 in
    let k = not (get_or d.set x false) in (
      subst (λ (n : ℕ). n ≤ l.i + 1) (sym c.place-kept.ensures.next)
          (at_most_one_more k l.kept l.i l.invariant.0),
      c.place-kept.auto.bytes ∙ l.invariant.1,
      λ xs same t.
          thin k d.spec xs l.bytes c.place-kept.new.bytes l.kept c.place-kept.result l.i x
          (sym (d.plain x (omega arith)))
          (omega (arith, same, c.loop-i-test.true, c.requires.within, l.invariant.1))
          (omega (arith, same, l.invariant.1))
          (l.invariant.2 xs same t)
          (ap (λ (s : Option (List Bool)). not (in_set s x)) (sym d.deletes))
          c.place-kept.ensures.written c.place-kept.ensures.next,
    )
