use Rattle.std.proofs.Common.{◌≡◌, ℕ, ◌+◌, ◌++◌, true, refl, ap, ap₂, ◌∙◌}
use Rattle.planner.specs.declared.place.Place.{Place}
use Rattle.planner.specs.declared.plan.NodeName.TheVariants.{SinkOf}
use Rattle.planner.specs.Places.{Stage}
use Rattle.planner.specs.Openings.{opened_at, opened_operand, out_side}
use Rattle.planner.proofs.lemmas.GatherLaws.{numbered_more}
use Rattle.planner.proofs.openings.add_operand_outputs.Goals as goal

pub loop-operand-preserved : goal.loop-operand-preserved
loop-operand-preserved c =
    let names = c.output_operands-names.result.now in
    let s = c.args.stage.now in
    let first = c.first_operand-first.result in
    let i = c.loop-operand.operand in
    let x = c.index-names-operand.result in
    let old = c.loop-operand.opened.items in
    let new = c.add_opened.new.opened.items in
    let f = opened_operand (out_side c.args.fifos.now) c.args.nodes.now s in
    let index : c.stage.inside.index ≡ s.index = ap (λ (t : Stage). t.index) c.stage.view_is in
    let adds : new ≡ old ++ f (first + i, x) = c.in_ok-add_opened.ensures
    ∙ ap₂ (λ (k : ℕ) (p : Place). old ++ opened_at c.args.nodes.now s true true
    (SinkOf k (first + i)) p) index c.in_ok-place.ensures in
    numbered_more f first names i (first + i) x c.args.opened.now.items old new
    c.loop-operand-test.true c.index-names-operand.is refl c.loop-operand.invariant adds
