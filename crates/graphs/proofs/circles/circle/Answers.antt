use Rattle.std.proofs.Common.{◌+◌, length, sym}
use Rattle.graphs.specs.inner.Circles.{ComesRound}
use Rattle.graphs.proofs.lemmas.WalkLaws.{round_on, comes_round}
use Rattle.graphs.proofs.lemmas.CircleLaws.{circle_met}
use Rattle.graphs.proofs.circles.circle.Goals as goal

pub round-requires : goal.round-requires
round-requires c =
    let next = c.args.next.now in
    let far : ComesRound next c.in-Some.place =
    comes_round next c.args.from c.in-Some.place (sym c.in-Some.ensures) in
    let reached = c.lowest_ahead-low.ensures.reached in (
      far.0,
      far.1,
      far.2,
      round_on next c.in-Some.place c.lowest_ahead-low.result far.0 reached.0
          far.3 reached.1,
    )

pub returns : goal.returns
returns c =
    let next = c.args.next.now in
    let far = sym c.in-Some.ensures in
    let reached = c.lowest_ahead-low.ensures.reached in
    circle_met next c.args.from (length next + 1) c.in-Some.place c.lowest_ahead-low.result
    reached.0 c.in_ok-round.field-0.items far
    (comes_round next c.args.from c.in-Some.place far) reached.1 c.lowest_ahead-low.ensures.lowest
    c.in_ok-round.ensures.circle c.in_ok-round.ensures.from
