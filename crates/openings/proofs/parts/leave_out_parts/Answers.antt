use Rattle.std.proofs.Common.{◌≡◌, ◌<◌, ℕ, None, Some, length, arith, sym, ap, ◌∙◌, refl, subst}
use Rattle.std.specs.Prelude.{slice_index_or}
use Rattle.std.specs.List.{slice_get}
use Rattle.std.proofs.lemmas.Option.{slice_get-get_or, unwrap_or-slice_get}
use Rattle.openings.specs.inner.LeftParts.{LeavesParts}
use Rattle.openings.proofs.lemmas.PartLaws.{front_more, no_parts, still_unread}
use Rattle.openings.proofs.parts.leave_out_parts.Goals as goal

pub loop-place-init : goal.loop-place-init
loop-place-init g c = no_parts c.args.plan.now c.args.answers.now
    (g.F.Files.shows c.args.files.now)

pub leave_out-requires-clause-unread : goal.leave_out-requires-clause-unread
leave_out-requires-clause-unread g c =
    still_unread c.args.plan.now c.args.answers.now c.loop-place.place
    (g.F.Files.shows c.args.files.now)
    (g.F.Files.shows c.loop-place.files) c.requires.unread c.loop-place.invariant
    (slice_index_or c.args.answers.now c.loop-place.place None)
    (unwrap_or-slice_get c.args.answers.now c.loop-place.place None)

pub loop-place-preserved : goal.loop-place-preserved
loop-place-preserved g c =
    let plan = c.args.plan.now in
    let place = c.loop-place.place in
    let o = slice_index_or c.inputs.result.now place c.index-inputs-place.result in
    let here : place < length c.inputs.result.now =
    omega (arith, ap length c.inputs.ensures, c.requires.count, c.loop-place-test.true) in
    let at : slice_get plan.inputs place ≡ Some o =
    ap (λ os. slice_get os place) (sym c.inputs.ensures)
    ∙ slice_get-get_or c.inputs.result.now place c.index-inputs-place.result here in
    front_more plan c.args.answers.now place (g.F.Files.shows c.args.files.now)
    (g.F.Files.shows c.loop-place.files) o at c.requires.unread c.loop-place.invariant
    (g.F.Files.shows c.leave_out.new.files)
    o.node (slice_index_or c.args.answers.now place None) refl
    (unwrap_or-slice_get c.args.answers.now place None) c.leave_out.ensures

pub returns : goal.returns
returns g c =
    let end : c.loop-place.place ≡ length c.args.answers.now =
    omega (arith, c.loop-place.auto.place-end, c.loop-place-test.false) in
    subst (λ (n : ℕ). LeavesParts c.args.plan.now c.args.answers.now n
    (g.F.Files.shows c.args.files.now) (g.F.Files.shows c.loop-place.files)) end
    c.loop-place.invariant
