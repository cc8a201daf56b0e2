use Rattle.std.proofs.Common.{◌∙◌, inl, inr, rules}
use Rattle.planner.proofs.Opened.{openings_are_own}
use Rattle.plan_runs.specs.Contents.{HoldsOutputs}
use Rattle.plan_runs.proofs.lemmas.AnswerLaws.{rests_left}
use Rattle.plan_runs.proofs.lemmas.PlacingLaws.{left_holds, no_stall_kept, placed_answers}
use Rattle.plan_runs.proofs.lemmas.PlacingLaws.{placed_holds}
use Rattle.plan_runs.proofs.lemmas.TurnLaws.{finishes_so, sources_held}
use Rattle.plan_runs.proofs.in_turn.run_plan_in_turn.Goals as goal

pub returns-in-Ok-clause-finishes : goal.returns-in-Ok-clause-finishes
returns-in-Ok-clause-finishes g c =
    let then = g.F.Files.shows c.run_rounds.new.files in
    let new = g.F.Files.shows c.place_or_leave.new.files in
    finishes_so c.args.plan.now c.args.opened.now then new c.place_or_leave.ensures.calls.inputs
    c.args.rounds c.in-Ok.outcome c.place_or_leave.result
    (no_stall_kept c.args.plan.now c.args.opened.now c.in-Ok.outcome c.place_or_leave.result then
    new c.place_or_leave.ensures) c.in-Ok.ensures.finishes

pub returns-in-Ok-clause-holds : goal.returns-in-Ok-clause-holds
returns-in-Ok-clause-holds g c = λ before opens to whole case.
    placed_holds c.args.plan.now c.args.opened.now c.in-Ok.outcome c.place_or_leave.result
    (g.F.Files.shows c.run_rounds.new.files)
    (g.F.Files.shows c.place_or_leave.new.files) c.place_or_leave.ensures
    before (g.F.Files.shows c.args.files.now) opens c.run_rounds.ensures.touches to whole
    (c.run_rounds.ensures.holds before opens to) case

pub returns-in-Ok-clause-answers : goal.returns-in-Ok-clause-answers
returns-in-Ok-clause-answers g c = λ before opens to held whole.
    placed_answers c.args.plan.now c.args.opened.now c.in-Ok.outcome c.place_or_leave.result
    (g.F.Files.shows c.run_rounds.new.files)
    (g.F.Files.shows c.place_or_leave.new.files) c.place_or_leave.ensures
    before (g.F.Files.shows c.args.files.now) opens c.run_rounds.ensures.touches to whole
    (c.run_rounds.ensures.holds before opens to) (c.in-Ok.ensures.answers before opens to held)

pub returns-in-Err-clause-ends : goal.returns-in-Err-clause-ends
returns-in-Err-clause-ends g c contents hold enough =
    c.in-Err.ensures.ends contents (search (rules, sources_held)) enough

pub returns-in-Err-clause-finishes : goal.returns-in-Err-clause-finishes
returns-in-Err-clause-finishes g c forest contents hold enough =
    c.in-Err.ensures.finishes forest contents (search (rules, sources_held)) enough

pub returns-in-Ok-clause-in_time : goal.returns-in-Ok-clause-in_time
returns-in-Ok-clause-in_time g c = λ before opens held enough.
    let then = g.F.Files.shows c.run_rounds.new.files in
    let new = g.F.Files.shows c.place_or_leave.new.files in
    let timely = c.in-Ok.ensures.in_time before opens held enough in (
      timely.0,
      λ forest. no_stall_kept c.args.plan.now c.args.opened.now c.in-Ok.outcome
          c.place_or_leave.result then new c.place_or_leave.ensures (timely.1 forest),
    )

pub returns-in-Err-clause-holds : goal.returns-in-Err-clause-holds
returns-in-Err-clause-holds g c = λ before opens to whole case.
    let plan = c.args.plan.now in
    let opened = c.args.opened.now in
    let then = g.F.Files.shows c.run_rounds.new.files in
    let new = g.F.Files.shows c.leave_outputs.new.self in
    let touches = c.run_rounds.ensures.touches in
    let places = touches.places in
    elim case as (λ _. HoldsOutputs plan opened before new) [
      | inl unheld ↦ left_holds plan opened before then new c.leave_outputs.ensures
          (places.held_back ∙ unheld) (c.run_rounds.ensures.holds before opens to)
      | inr finished ↦ absurd finished
    ]

pub returns-in-Ok-clause-rests : goal.returns-in-Ok-clause-rests
returns-in-Ok-clause-rests g c = λ before opens held.
    let of = c.requires.plan in
    let calls = c.place_or_leave.ensures.calls in
    rests_left c.args.plan.now c.args.opened.now before (g.F.Files.shows c.args.files.now)
    (g.F.Files.shows c.run_rounds.new.files) (g.F.Files.shows c.place_or_leave.new.files)
    (openings_are_own of.script c.args.plan.now of.is_plan) opens held c.run_rounds.ensures.touches
    calls.inputs

pub returns-in-Err-clause-rests : goal.returns-in-Err-clause-rests
returns-in-Err-clause-rests g c = λ before opens held.
    let of = c.requires.plan in
    let leaves = c.leave_outputs.ensures in
    let calls = leaves.calls in
    rests_left c.args.plan.now c.args.opened.now before (g.F.Files.shows c.args.files.now)
    (g.F.Files.shows c.run_rounds.new.files) (g.F.Files.shows c.leave_outputs.new.self)
    (openings_are_own of.script c.args.plan.now of.is_plan) opens held c.run_rounds.ensures.touches
    calls.inputs
