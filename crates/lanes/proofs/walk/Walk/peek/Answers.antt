use Rattle.std.proofs.Common.{eqb, false, ◌≡◌, subst, drop}
use Rattle.std.specs.List.{All}
use Rattle.std.specs.Prelude.{MatchOption}
use Rattle.machine.specs.inner.Places.{FirstFrom}
use Rattle.lanes.specs.inner.Walks.{Course}
use Rattle.lanes.proofs.lemmas.WalkLaws.{next_place}
use Rattle.lanes.proofs.walk.Walk.peek.Goals as goal

pub invariant_of-self : goal.invariant_of-self
invariant_of-self c = (
  c.self.invariant.0,
  c.next_marks-base.ensures.base,
  c.next_marks-base.ensures.shows c.self.inside.from c.self.invariant.2,
)

pub returns-clause-place : goal.returns-clause-place
returns-clause-place c =
    subst (λ (v : Course). MatchOption c.place_in.result
    (All (λ x. eqb x v.byte ≡ false) (drop v.from v.bytes)) (FirstFrom v.bytes v.byte v.from))
    c.self.view_is
    (next_place c.place_in.result c.self.inside.ahead.now c.self.inside.len c.self.inside.byte
    c.self.inside.from c.next_marks-base.result.0 c.next_marks-base.result.1 c.self.invariant.0
    (c.next_marks-base.ensures.shows c.self.inside.from c.self.invariant.2)
    c.next_marks-base.ensures.ended c.place_in.ensures)
