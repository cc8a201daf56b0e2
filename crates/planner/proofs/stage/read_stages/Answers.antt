use Rattle.std.proofs.Common.{◌≡◌, ◌+◌, List, [], ◌∷◌, length, drop, true, sym, ap, ◌∙◌, subst}
use Rattle.std.proofs.lemmas.List.{drop_more, length-append}
use Rattle.std.proofs.lemmas.Result.{err_from_is_err_and}
use Rattle.planner.specs.Places.{Stage}
use Rattle.planner.specs.Stages.{placed, placed_in, placed_from}
use Rattle.planner.proofs.lemmas.PlacedCommands.{AreRead, more_read, stages_count, placed_count}
use Rattle.planner.proofs.lemmas.PlacedCommands.{refused_more}
use Rattle.planner.proofs.stage.read_stages.Goals as goal

pub loop-pipeline-preserved : goal.loop-pipeline-preserved
loop-pipeline-preserved c =
    let now = c.loop-pipeline.stages.items in
    let new = c.read_pipeline.new.stages.items in
    let i = c.loop-pipeline.pipeline-index in
    let ps = c.args.script.now.pipelines in
    let p = c.pipeline-item.result in
    let whole = placed c.args.script.now in
    let cs = placed_in (length now) p.background true p.commands in
    let n = length now + length p.commands in
    let rest = placed_from n (drop (i + 1) ps) in
    let qs = c.as_slice-pipeline-items.result.now in
    let same = c.as_slice-pipeline-items.ensures in
    let next : drop i ps ≡ p ∷ drop (i + 1) ps =
    ap (λ xs. drop i xs) (sym same)
    ∙ (drop_more qs i p c.loop-pipeline-test.true
    ∙ (ap (λ q. q ∷ drop (i + 1) qs) (sym c.pipeline-item.is)
    ∙ ap (λ xs. p ∷ drop (i + 1) xs) same)) in
    let read = subst (λ qs. AreRead whole (placed_from (length now) qs) [] now) next
    c.loop-pipeline.invariant in
    let (ss, means, added) = c.in_ok-read_pipeline.ensures in
    let count = stages_count cs ss means ∙ placed_count (length now) p.background true p.commands in
    let size : n ≡ length new = sym (ap (λ (us : List Stage). length us) added
    ∙ (length-append now ss ∙ ap (λ k. length now + k) count)) in
    subst (λ k. AreRead whole (placed_from k (drop (i + 1) ps)) [] new) size
    (more_read whole cs rest [] now new ss read means added)

pub returns-in_err-read_pipeline : goal.returns-in_err-read_pipeline
returns-in_err-read_pipeline c =
    let r = err_from_is_err_and c.from_residual-in_err-read_pipeline.result
    c.from_residual-in_err-read_pipeline.ensures.1 in
    let now = c.loop-pipeline.stages.items in
    let i = c.loop-pipeline.pipeline-index in
    let ps = c.args.script.now.pipelines in
    let p = c.pipeline-item.result in
    let whole = placed c.args.script.now in
    let cs = placed_in (length now) p.background true p.commands in
    let rest = placed_from (length now + length p.commands) (drop (i + 1) ps) in
    let qs = c.as_slice-pipeline-items.result.now in
    let same = c.as_slice-pipeline-items.ensures in
    let next : drop i ps ≡ p ∷ drop (i + 1) ps =
    ap (λ xs. drop i xs) (sym same)
    ∙ (drop_more qs i p c.loop-pipeline-test.true
    ∙ (ap (λ q. q ∷ drop (i + 1) qs) (sym c.pipeline-item.is)
    ∙ ap (λ xs. p ∷ drop (i + 1) xs) same)) in
    let read = subst (λ qs. AreRead whole (placed_from (length now) qs) [] now) next
    c.loop-pipeline.invariant in
    let f = c.in_err-read_pipeline.field-0.0 in
    rw (r.1, r.2) (refused_more whole cs rest [] now read f c.in_err-read_pipeline.ensures)
