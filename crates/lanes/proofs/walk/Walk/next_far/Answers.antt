use Rattle.std.proofs.Common.{◌+◌, eqb, false, ◌≡◌, subst, drop, take, ap, arith, None, Some}
use Rattle.std.proofs.lemmas.List.{length-take}
use Rattle.std.specs.List.{All}
use Rattle.machine.specs.inner.Places.{FirstFrom}
use Rattle.lanes.specs.inner.Walks.{Course}
use Rattle.lanes.proofs.lemmas.WalkLaws.{next_place, shows_past}
use Rattle.lanes.proofs.walk.Walk.next_far.Goals as goal

pub invariant_of-self : goal.invariant_of-self
invariant_of-self c = (
  c.self.invariant.0,
  c.next_marks_far-base.ensures.base,
  c.next_marks_far-base.ensures.shows c.self.inside.from c.self.invariant.2,
)

pub returns-in_default : goal.returns-in_default
returns-in_default c = (
  subst (λ (v : Course). All (λ x. eqb x v.byte ≡ false) (drop v.from v.bytes)) c.self.view_is
      (next_place None c.self.inside.ahead.now c.self.inside.len c.self.inside.byte
      c.self.inside.from c.next_marks_far-base.result.0 c.next_marks_far-base.result.1
      c.self.invariant.0
      (c.next_marks_far-base.ensures.shows c.self.inside.from c.self.invariant.2)
      c.next_marks_far-base.ensures.ended c.in_default.ensures),
  c.self.view_is,
)

pub invariant_of-self-2 : goal.invariant_of-self-2
invariant_of-self-2 c =
    let h = c.in-Some.ensures in (
      c.self.invariant.0,
      c.next_marks_far-base.ensures.base,
      shows_past (take c.self.inside.len c.self.inside.ahead.now) c.self.inside.byte
          c.self.inside.from c.next_marks_far-base.result.0 c.next_marks_far-base.result.1
          c.without-self-inside.result c.in-Some.place
          (c.next_marks_far-base.ensures.shows c.self.inside.from c.self.invariant.2) h.0 h.1
          (omega (
            arith,
            h.2,
            length-take c.self.inside.len c.self.inside.ahead.now,
            c.self.invariant.0,
          )) h.3 h.4 c.without-self-inside.ensures.kept
          c.without-self-inside.ensures.gone,
    )

pub returns : goal.returns
returns c = (
  subst (λ (v : Course). FirstFrom v.bytes v.byte v.from c.in-Some.place) c.self.view_is
      (next_place (Some c.in-Some.place) c.self.inside.ahead.now c.self.inside.len
      c.self.inside.byte c.self.inside.from c.next_marks_far-base.result.0
      c.next_marks_far-base.result.1 c.self.invariant.0
      (c.next_marks_far-base.ensures.shows c.self.inside.from c.self.invariant.2)
      c.next_marks_far-base.ensures.ended c.in-Some.ensures),
  ap (λ (v : Course). record v { from = c.in-Some.place + 1 }) c.self.view_is,
)
