use Rattle.std.proofs.Common.{ap}
use Rattle.planner.proofs.Apart.{outputs_are_apart}
use Rattle.planner.proofs.Opened.{openings_are_own}
use Rattle.planner.proofs.Plans.{plans_are_wired}
use Rattle.plan_runs.proofs.lemmas.AnswerLaws.{answers}
use Rattle.plan_runs.proofs.lemmas.HoldLaws.{outputs_hold}
use Rattle.plan_runs.proofs.lemmas.SettleLaws.{outcome_settles, settled_by, touched_by}
use Rattle.plan_runs.proofs.run.run_and_settle.Goals as goal

pub returns-clause-outcome : goal.returns-clause-outcome
returns-clause-outcome g c =
    outcome_settles c.args.plan.now c.args.opened.now c.args.settings
    (g.F.Files.shows c.args.files.now) (g.F.Files.shows c.run_to_end-ran.new.files)
    (g.F.Files.shows c.settle_failed.new.files) c.run_to_end-ran.result.outcome
    c.run_to_end-ran.ensures.outcome c.settle_failed.ensures.settles
    (λ sound. ap (λ f. g.F.Files.shows f) (c.settle_failed.ensures.sound sound))

pub returns-clause-touches : goal.returns-clause-touches
returns-clause-touches g c =
    touched_by c.args.plan.now c.args.opened.now (g.F.Files.shows c.args.files.now)
    (g.F.Files.shows c.run_to_end-ran.new.files) (g.F.Files.shows c.settle_failed.new.files)
    c.run_to_end-ran.ensures.touches c.settle_failed.ensures.settles

pub returns-clause-holds : goal.returns-clause-holds
returns-clause-holds g c = λ before opens to.
    let of = c.requires.plan in
    outputs_hold c.args.plan.now c.args.opened.now before (g.F.Files.shows c.args.files.now)
    (g.F.Files.shows c.settle_failed.new.files)
    (openings_are_own of.script c.args.plan.now of.is_plan) opens to
    (returns-clause-touches g c)
    (outputs_are_apart of.script c.args.plan.now of.body of.is_plan)

pub returns-clause-answers : goal.returns-clause-answers
returns-clause-answers g c = λ before opens to held.
    let now = g.F.Files.shows c.args.files.now in
    let of = c.requires.plan in
    let own = openings_are_own of.script c.args.plan.now of.is_plan in
    answers c.args.plan.now c.args.opened.now before now
    (g.F.Files.shows c.settle_failed.new.files) own opens held (returns-clause-touches g c)
    (plans_are_wired of.script c.args.plan.now of.body of.is_plan) c.args.settings
    c.run_to_end-ran.result.outcome (returns-clause-outcome g c)
    (returns-clause-holds g c before opens to)

pub returns-clause-settled : goal.returns-clause-settled
returns-clause-settled g c =
    settled_by c.args.plan.now c.args.opened.now c.args.settings (g.F.Files.shows c.args.files.now)
    (g.F.Files.shows c.run_to_end-ran.new.files) (g.F.Files.shows c.settle_failed.new.files)
    c.run_to_end-ran.result.outcome c.run_to_end-ran.ensures.outcome
    c.settle_failed.ensures.settles c.settle_failed.ensures.failed
