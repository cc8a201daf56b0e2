use Rattle.std.proofs.Common.{rules}
use Rattle.planner.proofs.Opened.{openings_are_own}
use Rattle.plan_runs.proofs.lemmas.AnswerLaws.{placed_rests}
use Rattle.plan_runs.proofs.lemmas.PlacingLaws.{placed_answers, placed_holds}
use Rattle.plan_runs.proofs.run.run_plan.Goals as goal

pub returns-clause-holds : goal.returns-clause-holds
returns-clause-holds g c = λ before opens to whole case.
    let ran = c.run_and_settle-outcome.ensures in
    placed_holds c.args.plan.now c.args.opened.now c.run_and_settle-outcome.result.outcome _
    (g.F.Files.shows c.run_and_settle-outcome.new.files) _ (search rules)
    before (g.F.Files.shows c.args.files.now) opens ran.touches to whole
    (ran.holds before opens to) case

pub returns-clause-answers : goal.returns-clause-answers
returns-clause-answers g c = λ before opens to held whole.
    let ran = c.run_and_settle-outcome.ensures in
    placed_answers c.args.plan.now c.args.opened.now c.run_and_settle-outcome.result.outcome _
    (g.F.Files.shows c.run_and_settle-outcome.new.files) _ (search rules)
    before (g.F.Files.shows c.args.files.now) opens ran.touches to whole (ran.holds before opens to)
    (ran.answers before opens to held)

pub returns-clause-rests : goal.returns-clause-rests
returns-clause-rests g c = λ before opens held.
    let of = c.requires.plan in
    let ran = c.run_and_settle-outcome.ensures in
    placed_rests c.args.plan.now c.args.opened.now before (g.F.Files.shows c.args.files.now)
    (g.F.Files.shows c.run_and_settle-outcome.new.files)
    (g.F.Files.shows c.place_or_leave.new.files) c.run_and_settle-outcome.result.outcome
    c.place_or_leave.result (openings_are_own of.script c.args.plan.now of.is_plan) opens held
    ran.touches c.place_or_leave.ensures
