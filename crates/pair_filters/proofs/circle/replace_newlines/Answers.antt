use Rattle.std.proofs.Common.{◌≡◌, ◌+◌, ◌∙◌, ℕ, false, eqb, drop, get_or, set, ap, subst, sym}
use Rattle.std.specs.List.{All}
use Rattle.machine.specs.Lines.{newline}
use Rattle.machine.specs.inner.Places.{FirstFrom}
use Rattle.lanes.specs.inner.Walks.{Course}
use Rattle.pair_filters.proofs.lemmas.PutLaws.{PutsUpTo, puts_more, puts_all}
use Rattle.pair_filters.proofs.circle.replace_newlines.Goals as goal

pub loop-end-preserved : goal.loop-end-preserved
loop-end-preserved c =
    let l = c.loop-end in
    let circle = c.args.circle.now in
    let bytes = c.args.bytes.now in
    let k = c.in-Some.end in
    let r = c.number_behind-number in
    let made' = set l.made k (get_or circle l.number 0) in
    let found = subst (λ (w : Course). FirstFrom w.bytes w.byte l.ends.from k) l.invariant.course
    (c.in-Some.ensures.0) in
    let course : c.next.new.self ≡ record { bytes = bytes; byte = newline; from = k + 1 } =
    c.in-Some.ensures.1 ∙ ap (λ (w : Course). record w { from = k + 1 }) l.invariant.course in
    record {
      put =
          subst (λ (at : ℕ). PutsUpTo circle c.args.first r.result bytes at made')
          (sym (ap (λ (w : Course). w.from) course))
          (subst (λ (n : ℕ). PutsUpTo circle c.args.first n bytes (k + 1) made')
          (sym r.ensures.value)
          (puts_more circle c.args.first l.number bytes l.ends.from k l.made l.invariant.put
          found));
      low = r.ensures.below;
      course = course ∙ ap (λ (n : ℕ). record { bytes = bytes; byte = newline; from = n })
          (sym (ap (λ (w : Course). w.from) course));
    }

pub returns-clause-made : goal.returns-clause-made
returns-clause-made c =
    let l = c.loop-end in
    (puts_all c.args.circle.now c.args.first l.number c.args.bytes.now l.ends.from l.made
    l.invariant.put
    (subst (λ (w : Course). All (λ x. eqb x w.byte ≡ false) (drop l.ends.from w.bytes))
    l.invariant.course (c.in_default.ensures.0))).0

pub returns-clause-number : goal.returns-clause-number
returns-clause-number c =
    let l = c.loop-end in
    (puts_all c.args.circle.now c.args.first l.number c.args.bytes.now l.ends.from l.made
    l.invariant.put
    (subst (λ (w : Course). All (λ x. eqb x w.byte ≡ false) (drop l.ends.from w.bytes))
    l.invariant.course (c.in_default.ensures.0))).1
