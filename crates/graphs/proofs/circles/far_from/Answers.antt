use Rattle.std.proofs.Common.{◌≡◌, ◌+◌, length, None, sym, ◌∙◌, arith}
use Rattle.graphs.specs.inner.Circles.{next_of}
use Rattle.graphs.proofs.lemmas.WalkLaws.{step_at, ended_by}
use Rattle.graphs.proofs.circles.far_from.Goals as goal

pub returns-in_err-place : goal.returns-in_err-place
returns-in_err-place c =
    let next = c.args.next.now in
    let from = c.args.from in
    let i = c.loop.index in
    let nowhere : next_of next c.loop.place ≡ None = sym c.in_err-place.ensures in
    c.from_residual.ensures
    ∙ sym (ended_by next from (i + 1) (length next + 1)
    (step_at next from i c.loop.place c.loop.invariant ∙ nowhere) (omega arith))
