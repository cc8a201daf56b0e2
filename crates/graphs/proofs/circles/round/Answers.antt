use Rattle.std.proofs.Common.{◌≡◌, ℕ, ◌+◌, List, Some, sym, subst, ap, ◌∙◌}
use Rattle.graphs.specs.inner.Circles.{next_of, IsCircle}
use Rattle.graphs.proofs.lemmas.CircleLaws.{AreFirst, first_more, goes_on, closes}
use Rattle.graphs.proofs.circles.round.Goals as goal
use Rattle.graphs.proofs.circles.round.Goals.{in_default-via-in-Some+else-then-start}
use Rattle.graphs.proofs.circles.round.Goals.{in_default-via-in_default}

pub loop-preserved : goal.loop-preserved
loop-preserved c =
    let next = c.args.next.now in
    let start = c.args.start in
    let now = λ (xs : List ℕ). AreFirst next start xs (c.loop.index + 1) c.in-Some.then in
    subst now (sym c.in_ok-push.ensures.items)
    (first_more next start c.loop.places.items c.loop.index c.loop.place c.in-Some.then
    c.loop.invariant (sym c.in-Some.ensures) c.if-then-start.true)

pub returns-in_default-clause-circle : goal.returns-in_default-clause-circle
returns-in_default-clause-circle c =
    let next = c.args.next.now in
    let start = c.args.start in
    let first = c.loop.invariant in
    let back : next_of next c.loop.place ≡ Some start = elim c.in_default.branch [
      | in_default-via-in-Some+else-then-start w ↦ sym w.in-Some.ensures
          ∙ ap Some w.if-then-start.false
      | in_default-via-in_default w ↦
          absurd (goes_on next start c.requires c.loop.places.items c.loop.index c.loop.place first
          (sym w.in_default.ensures))
    ] in
    subst (IsCircle next) (sym c.in_ok-push.ensures.items)
    (closes next start c.loop.places.items c.loop.index c.loop.place first back)
