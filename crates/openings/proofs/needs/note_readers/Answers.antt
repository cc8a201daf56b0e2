use Rattle.std.proofs.Common.{refl, ◌≡◌, ◌<◌, ℕ, List, Some, length, arith, sym, ap, ◌∙◌, subst}
use Rattle.std.specs.Prelude.{slice_index_or}
use Rattle.std.specs.List.{slice_get}
use Rattle.std.proofs.lemmas.List.{length-replicate}
use Rattle.std.proofs.lemmas.Option.{slice_get-get_or, slice_get_read}
use Rattle.openings.proofs.lemmas.NeedLaws.{all_covered, none_needed, one_more, writers_within}
use Rattle.openings.proofs.needs.note_readers.Goals as goal

pub loop-pipe-init : goal.loop-pipe-init
loop-pipe-init c = λ k. none_needed c.args.plan.now c.args.needs.now (length c.args.plan.now.nodes) k
    c.requires

pub loop-pipe-preserved : goal.loop-pipe-preserved
loop-pipe-preserved c =
    let plan = c.args.plan.now in
    let pipe = c.loop-pipe.pipe in
    let ends = slice_index_or c.pipes.result.now pipe (0, 0) in
    let value = c.pipes.ensures.value in
    let here : pipe < length c.pipes.result.now =
    omega (
      arith,
      ap length c.pipes-pipe-end.ensures.value,
      ap length value,
      c.loop-pipe-test.true,
    ) in
    let at : slice_get plan.pipes pipe ≡ Some ends = ap (λ ps. slice_get ps pipe) (sym value)
    ∙ slice_get-get_or c.pipes.result.now pipe (0, 0) here in
    let forward =
    subst
    (λ (ps : List (ℕ × ℕ)).
    ((slice_index_or ps pipe (0, 0)).0 < (slice_index_or ps pipe (0, 0)).1)
    × ((slice_index_or ps pipe (0, 0)).1 < length plan.nodes)) (sym value)
    (c.pipes.ensures.forward pipe (0, 0) (omega (arith, ap length value, here))) in
    let there : slice_get plan.nodes ends.1 ≡ Some c.index-order-reader.result =
    ap (λ ns. slice_get ns ends.1) (sym c.order.ensures)
    ∙ slice_get_read c.order.result.now
    (length c.order.result.now) ends.1 c.index-order-reader.result refl
    (omega (arith, ap length c.order.ensures, forward.1)) c.index-order-reader.is in
    let long : length c.args.needs.now ≡ length plan.nodes = ap length c.requires
    ∙ length-replicate (length plan.nodes) _ in
    rw c.with.ensures
    (one_more plan _ c.loop-pipe.needs pipe ends.0 ends.1 c.index-order-reader.result
    c.need_of.result at there c.need_of.ensures
    (omega (arith, long, c.loop-pipe.auto.needs, forward)) c.loop-pipe.invariant)

pub returns : goal.returns
returns c =
    let plan = c.args.plan.now in
    let long : length c.args.needs.now ≡ length plan.nodes = ap length c.requires
    ∙ length-replicate (length plan.nodes) _ in
    let value = c.pipes-pipe-end.ensures.value in
    all_covered plan c.loop-pipe.needs c.loop-pipe.pipe
    (omega (arith, ap length value, c.loop-pipe-test.false))
    (omega (arith, long, c.loop-pipe.auto.needs))
    (writers_within plan c.pipes-pipe-end.ensures.forward)
    c.loop-pipe.invariant
