use Rattle.std.proofs.Common.{◌≡◌, ◌∙◌, ◌++◌, ◌∷◌, take, drop, ap, sym, arith, List, append-nil}
use Rattle.line_filters.specs.declared.stretches.Stretch.{Stretch}
use Rattle.line_filters.specs.inner.Stretches.{kept_of, reach_of}
use Rattle.line_filters.proofs.lemmas.StretchLaws.{none_left, stretch_kept}
use Rattle.line_filters.proofs.stretches.keep.Goals as goal

pub loop-stretch-preserved : goal.loop-stretch-preserved
loop-stretch-preserved c =
    let l = c.loop-stretch in
    let s = c.in-Some.stretch in
    let later = c.pop_front.new.self.items in
    let split : l.stretches.items ≡ s ∷ later = c.in-Some.ensures.items in
    let moved = c.move_back.ensures in
    record {
      before = omega (arith, l.invariant.before);
      within = omega (arith, l.invariant.within, ap reach_of split, moved.long);
      made =
          stretch_kept l.content.items c.move_back.new.content.items l.kept l.at s later
          (kept_of c.args.stretches.now.items c.args.content.now.items)
          (ap (λ (ss : List Stretch). take l.kept l.content.items ++ kept_of ss
          (drop l.at l.content.items)) (sym split) ∙ l.invariant.made)
          moved.moved moved.rest;
    }

pub returns : goal.returns
returns c =
    let l = c.loop-stretch in
    c.truncate.ensures.items
    ∙ (sym (append-nil (take l.kept l.content.items))
    ∙ (ap (λ (ss : List Stretch). take l.kept l.content.items ++ kept_of ss
    (drop l.at l.content.items))
    (sym (none_left l.stretches.items
    (omega (arith, c.in_default.ensures.cases.0, l.stretches.ok)))) ∙ l.invariant.made))
