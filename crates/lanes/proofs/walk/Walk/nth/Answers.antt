use Rattle.std.proofs.Common.{◌+◌, ◌<◌, subst, take, ap, arith, None, Some}
use Rattle.std.proofs.lemmas.List.{length-take}
use Rattle.lanes.specs.inner.Walks.{Course, IsNth, places_from}
use Rattle.lanes.proofs.lemmas.NthLaws.{nth_place}
use Rattle.lanes.proofs.lemmas.WalkLaws.{shows_past}
use Rattle.lanes.proofs.walk.Walk.nth.Goals as goal

pub returns-in_default : goal.returns-in_default
returns-in_default c =
    let i = c.self.inside in
    let m = c.nth_marks-base.ensures.shows i.from c.self.invariant.2 in
    subst (λ (v : Course). places_from v < c.args.count) c.self.view_is
    (nth_place None i.ahead.now i.len i.byte i.from m.0 c.args.count c.nth_marks-base.result.0
    c.nth_marks-base.result.1 c.self.invariant.0 m.3 m.1 m.2 c.nth_marks-base.ensures.ended
    c.in_default.ensures)

pub invariant_of-self : goal.invariant_of-self
invariant_of-self c =
    let h = c.in-Some.ensures in
    let i = c.self.inside in
    let m = c.nth_marks-base.ensures.shows i.from c.self.invariant.2 in (
      c.self.invariant.0,
      c.nth_marks-base.ensures.base,
      shows_past (take i.len i.ahead.now) i.byte m.3.to c.nth_marks-base.result.0
          c.nth_marks-base.result.1 c.without-self-inside.result c.in-Some.place
          m.3.shows h.0 h.1 (omega (arith, h.2, length-take i.len i.ahead.now, c.self.invariant.0))
          h.3 h.4 c.without-self-inside.ensures.kept c.without-self-inside.ensures.gone,
    )

pub returns : goal.returns
returns c =
    let i = c.self.inside in
    let m = c.nth_marks-base.ensures.shows i.from c.self.invariant.2 in (
      subst (λ (v : Course). IsNth v c.args.count c.in-Some.place) c.self.view_is
          (nth_place (Some c.in-Some.place) i.ahead.now i.len i.byte i.from m.0 c.args.count
          c.nth_marks-base.result.0 c.nth_marks-base.result.1 c.self.invariant.0 m.3 m.1 m.2
          c.nth_marks-base.ensures.ended c.in-Some.ensures),
      ap (λ (v : Course). record v { from = c.in-Some.place + 1 }) c.self.view_is,
    )
