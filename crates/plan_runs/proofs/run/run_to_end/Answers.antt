use Rattle.std.proofs.Common.{ℕ, List, map, sym, subst, ap, ◌∙◌}
use Rattle.std.specs.List.{AllByRecursion}
use Rattle.filters.specs.FilterShows.{filter_shows}
use Rattle.lending.specs.inner.Loans.{IsStageAt, AreSeparate}
use Rattle.step_scheduler.specs.Setups.{setup_of}
use Rattle.plan_runs.proofs.lemmas.AnswerLaws.{answers}
use Rattle.plan_runs.proofs.lemmas.Fresh.{new_unfailed}
use Rattle.plan_runs.proofs.lemmas.GroupLaws.{groups_separate, groups_staged}
use Rattle.plan_runs.proofs.lemmas.HoldLaws.{outputs_hold}
use Rattle.plan_runs.proofs.lemmas.RunLaws.{none_written, nothing_ran, plan_ran, plan_touches}
use Rattle.plan_runs.proofs.lemmas.RunLaws.{plan_untouched}
use Rattle.planner.proofs.Apart.{outputs_are_apart}
use Rattle.planner.proofs.Opened.{openings_are_own}
use Rattle.planner.proofs.Plans.{plans_are_wired}
use Rattle.plan_runs.proofs.run.run_to_end.Goals as goal

pub returns-in_default-clause-outcome : goal.returns-in_default-clause-outcome
returns-in_default-clause-outcome g c =
    let now = g.F.Files.shows c.args.files.now in
    nothing_ran c.args.plan.now c.args.opened.now c.args.settings now
    (none_written c.args.plan.now c.args.opened.now c.requires.opened.0 now c.requires.plan
    c.requires.opened.1)

pub returns-in_default-make_network-clause-outcome :
    goal.returns-in_default-make_network-clause-outcome
returns-in_default-make_network-clause-outcome g c =
    let now = g.F.Files.shows c.args.files.now in
    nothing_ran c.args.plan.now c.args.opened.now c.args.settings now
    (none_written c.args.plan.now c.args.opened.now c.requires.opened.0 now c.requires.plan
    c.requires.opened.1)

pub run_network-ended-requires-clause-stages : goal.run_network-ended-requires-clause-stages
run_network-ended-requires-clause-stages g c κs within =
    let now = g.F.Files.shows c.args.files.now in
    subst (λ (ls : List (List ℕ)). AllByRecursion
    (AllByRecursion (IsStageAt c.in-Ok-make_network.network.nodes)) ls)
    (sym (ap (λ gs. map (λ v. v.items) gs) c.as_slice.ensures.value ∙ c.in-Ok.ensures.1))
    (groups_staged c.args.plan.now c.args.opened.now c.args.settings.max_capacity
    c.args.settings.bytes c.args.settings.block c.in-Ok.ensures.0 c.in-Ok-make_network.network
    now (c.in-Ok-make_network.ensures.right c.requires.opened.0 now c.requires.opened.1))

pub run_network-ended-requires-clause-once : goal.run_network-ended-requires-clause-once
run_network-ended-requires-clause-once g c κs within =
    subst AreSeparate (sym (ap (λ gs. map (λ v. v.items) gs) c.as_slice.ensures.value
    ∙ c.in-Ok.ensures.1)) (groups_separate c.args.plan.now c.in-Ok.ensures.0)

pub run_network-ended-requires-clause-opened : goal.run_network-ended-requires-clause-opened
run_network-ended-requires-clause-opened g c κs within =
    c.in-Ok-make_network.ensures.opened c.requires.opened.0
    (g.F.Files.shows c.args.files.now) c.requires.opened.1

pub run_network-ended-requires-clause-unfailed : goal.run_network-ended-requires-clause-unfailed
run_network-ended-requires-clause-unfailed g c κs within =
    let now = g.F.Files.shows c.args.files.now in
    new_unfailed filter_shows
    (setup_of c.args.plan.now c.args.opened.now c.args.settings.max_capacity
    c.args.settings.bytes c.args.settings.block) now c.in-Ok-make_network.network
    (c.in-Ok-make_network.ensures.right c.requires.opened.0 now c.requires.opened.1)
    (c.in-Ok-make_network.ensures.empty c.requires.opened.0 now c.requires.opened.1)

pub returns-clause-outcome : goal.returns-clause-outcome
returns-clause-outcome g c =
    let now = g.F.Files.shows c.args.files.now in
    let s = setup_of c.args.plan.now c.args.opened.now c.args.settings.max_capacity
    c.args.settings.bytes c.args.settings.block in
    plan_ran c.args.plan.now c.args.opened.now c.args.settings now
    (g.F.Files.shows c.run_network-ended.new.files) c.in-Ok-make_network.network
    c.run_network-ended.result.outcome c.in-Ok-make_network.ensures.files
    c.in-Ok-make_network.ensures.room
    (c.run_network-ended.ensures.outcome s
    (c.in-Ok-make_network.ensures.right c.requires.opened.0 now c.requires.opened.1))

pub returns-clause-flows : goal.returns-clause-flows
returns-clause-flows g c = λ forest.
    let now = g.F.Files.shows c.args.files.now in
    c.run_network-ended.ensures.flows
    (setup_of c.args.plan.now c.args.opened.now c.args.settings.max_capacity
    c.args.settings.bytes c.args.settings.block)
    (c.in-Ok-make_network.ensures.right c.requires.opened.0 now c.requires.opened.1) forest

pub returns-in_default-clause-touches : goal.returns-in_default-clause-touches
returns-in_default-clause-touches g c =
    let now = g.F.Files.shows c.args.files.now in
    plan_untouched c.args.plan.now c.args.opened.now now

pub returns-in_default-make_network-clause-touches :
    goal.returns-in_default-make_network-clause-touches
returns-in_default-make_network-clause-touches g c =
    let now = g.F.Files.shows c.args.files.now in
    plan_untouched c.args.plan.now c.args.opened.now now

pub returns-clause-touches : goal.returns-clause-touches
returns-clause-touches g c =
    plan_touches c.args.plan.now c.args.opened.now (g.F.Files.shows c.args.files.now)
    (g.F.Files.shows c.run_network-ended.new.files) c.in-Ok-make_network.network
    c.in-Ok-make_network.ensures.files c.run_network-ended.ensures.touches

pub returns-in_default-clause-holds : goal.returns-in_default-clause-holds
returns-in_default-clause-holds g c = λ before opens to.
    let now = g.F.Files.shows c.args.files.now in
    let of = c.requires.plan in
    outputs_hold c.args.plan.now c.args.opened.now before now now
    (openings_are_own of.script c.args.plan.now of.is_plan) opens to
    (plan_untouched c.args.plan.now c.args.opened.now now)
    (outputs_are_apart of.script c.args.plan.now of.body of.is_plan)

pub returns-in_default-make_network-clause-holds : goal.returns-in_default-make_network-clause-holds
returns-in_default-make_network-clause-holds g c = λ before opens to.
    let now = g.F.Files.shows c.args.files.now in
    let of = c.requires.plan in
    outputs_hold c.args.plan.now c.args.opened.now before now now
    (openings_are_own of.script c.args.plan.now of.is_plan) opens to
    (plan_untouched c.args.plan.now c.args.opened.now now)
    (outputs_are_apart of.script c.args.plan.now of.body of.is_plan)

pub returns-clause-holds : goal.returns-clause-holds
returns-clause-holds g c = λ before opens to.
    let of = c.requires.plan in
    outputs_hold c.args.plan.now c.args.opened.now before (g.F.Files.shows c.args.files.now)
    (g.F.Files.shows c.run_network-ended.new.files)
    (openings_are_own of.script c.args.plan.now of.is_plan) opens to
    (plan_touches c.args.plan.now c.args.opened.now (g.F.Files.shows c.args.files.now)
    (g.F.Files.shows c.run_network-ended.new.files) c.in-Ok-make_network.network
    c.in-Ok-make_network.ensures.files c.run_network-ended.ensures.touches)
    (outputs_are_apart of.script c.args.plan.now of.body of.is_plan)

pub returns-in_default-clause-answers : goal.returns-in_default-clause-answers
returns-in_default-clause-answers g c = λ before opens to held.
    let now = g.F.Files.shows c.args.files.now in
    let of = c.requires.plan in
    let own = openings_are_own of.script c.args.plan.now of.is_plan in
    let touches = plan_untouched c.args.plan.now c.args.opened.now now in
    answers c.args.plan.now c.args.opened.now before now now own opens held touches
    (plans_are_wired of.script c.args.plan.now of.body of.is_plan) c.args.settings _
    (returns-in_default-clause-outcome g c)
    (outputs_hold c.args.plan.now c.args.opened.now before now now own opens to touches
    (outputs_are_apart of.script c.args.plan.now of.body of.is_plan))

pub returns-in_default-make_network-clause-answers :
    goal.returns-in_default-make_network-clause-answers
returns-in_default-make_network-clause-answers g c = λ before opens to held.
    let now = g.F.Files.shows c.args.files.now in
    let of = c.requires.plan in
    let own = openings_are_own of.script c.args.plan.now of.is_plan in
    let touches = plan_untouched c.args.plan.now c.args.opened.now now in
    answers c.args.plan.now c.args.opened.now before now now own opens held touches
    (plans_are_wired of.script c.args.plan.now of.body of.is_plan) c.args.settings _
    (returns-in_default-make_network-clause-outcome g c)
    (outputs_hold c.args.plan.now c.args.opened.now before now now own opens to touches
    (outputs_are_apart of.script c.args.plan.now of.body of.is_plan))

pub returns-clause-answers : goal.returns-clause-answers
returns-clause-answers g c = λ before opens to held.
    let now = g.F.Files.shows c.args.files.now in
    let of = c.requires.plan in
    let own = openings_are_own of.script c.args.plan.now of.is_plan in
    let after = g.F.Files.shows c.run_network-ended.new.files in
    let touches = plan_touches c.args.plan.now c.args.opened.now now after
    c.in-Ok-make_network.network c.in-Ok-make_network.ensures.files
    c.run_network-ended.ensures.touches in
    answers c.args.plan.now c.args.opened.now before now after own opens held touches
    (plans_are_wired of.script c.args.plan.now of.body of.is_plan) c.args.settings
    c.run_network-ended.result.outcome
    (returns-clause-outcome g c)
    (outputs_hold c.args.plan.now c.args.opened.now before now after own opens to touches
    (outputs_are_apart of.script c.args.plan.now of.body of.is_plan))

pub returns-in_default-names_of-clause-outcome :
    goal.returns-in_default-names_of-clause-outcome
returns-in_default-names_of-clause-outcome g c =
    let now = g.F.Files.shows c.args.files.now in
    nothing_ran c.args.plan.now c.args.opened.now c.args.settings now
    (none_written c.args.plan.now c.args.opened.now c.requires.opened.0 now c.requires.plan
    c.requires.opened.1)

pub returns-in_default-names_of-clause-holds : goal.returns-in_default-names_of-clause-holds
returns-in_default-names_of-clause-holds g c = λ before opens to.
    let now = g.F.Files.shows c.args.files.now in
    let of = c.requires.plan in
    outputs_hold c.args.plan.now c.args.opened.now before now now
    (openings_are_own of.script c.args.plan.now of.is_plan) opens to
    (plan_untouched c.args.plan.now c.args.opened.now now)
    (outputs_are_apart of.script c.args.plan.now of.body of.is_plan)

pub returns-in_default-names_of-clause-answers :
    goal.returns-in_default-names_of-clause-answers
returns-in_default-names_of-clause-answers g c = λ before opens to held.
    let now = g.F.Files.shows c.args.files.now in
    let of = c.requires.plan in
    let own = openings_are_own of.script c.args.plan.now of.is_plan in
    let touches = plan_untouched c.args.plan.now c.args.opened.now now in
    answers c.args.plan.now c.args.opened.now before now now own opens held touches
    (plans_are_wired of.script c.args.plan.now of.body of.is_plan) c.args.settings _
    (returns-in_default-names_of-clause-outcome g c)
    (outputs_hold c.args.plan.now c.args.opened.now before now now own opens to touches
    (outputs_are_apart of.script c.args.plan.now of.body of.is_plan))
