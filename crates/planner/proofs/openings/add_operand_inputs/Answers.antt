use Rattle.std.proofs.Common.{◌≡◌, ℕ, ◌++◌, true, ap, ap₂, ◌∙◌, arith}
use Rattle.planner.specs.declared.place.Place.{Place}
use Rattle.planner.specs.declared.plan.NodeName.TheVariants.{SourceOf}
use Rattle.planner.specs.Places.{Stage}
use Rattle.planner.specs.Openings.{opened_at, opened_operand, in_side}
use Rattle.planner.proofs.lemmas.GatherLaws.{numbered_more}
use Rattle.planner.proofs.openings.add_operand_inputs.Goals as goal

pub loop-input-preserved : goal.loop-input-preserved
loop-input-preserved c =
    let names = c.input_operands-names.result.now in
    let s = c.args.stage.now in
    let i = c.loop-input.input in
    let x = c.index-names-input.result in
    let old = c.loop-input.opened.items in
    let new = c.add_opened.new.opened.items in
    let f = opened_operand (in_side c.args.fifos.now) c.args.nodes.now s in
    let index : c.stage.inside.index ≡ s.index = ap (λ (t : Stage). t.index) c.stage.view_is in
    let adds : new ≡ old ++ f (i, x) = c.in_ok-add_opened.ensures
    ∙ ap₂ (λ (k : ℕ) (p : Place). old ++ opened_at c.args.nodes.now s true true
    (SourceOf k i) p) index c.in_ok-place.ensures in
    numbered_more f 0 names i i x c.args.opened.now.items old new c.loop-input-test.true
    c.index-names-input.is (omega arith) c.loop-input.invariant adds
