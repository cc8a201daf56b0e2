use Rattle.std.proofs.Common.{◌<◌, arith}
use Rattle.filters.specs.FilterShows.{filter_shows}
use Rattle.networks.specs.Turns.{IsNoStall}
use Rattle.networks.specs.inner.KeptNetworks.{EndsRun}
use Rattle.networks.proofs.EndLaws.{ok_map}
use Rattle.step_scheduler.specs.Setups.{setup_of}
use Rattle.planner.proofs.Apart.{outputs_are_apart}
use Rattle.planner.proofs.Opened.{openings_are_own}
use Rattle.planner.proofs.Plans.{plans_are_wired}
use Rattle.plan_runs.proofs.lemmas.AnswerLaws.{answers, left, shortened, sources_hold}
use Rattle.plan_runs.proofs.lemmas.Fresh.{new_unfailed}
use Rattle.plan_runs.proofs.lemmas.HoldLaws.{outputs_hold}
use Rattle.plan_runs.proofs.lemmas.RunLaws.{none_written, nothing_ran, plan_touches, plan_untouched}
use Rattle.plan_runs.proofs.lemmas.InTurnLaws.{agrees, ok_and, ran_in_turn}
use Rattle.plan_runs.proofs.lemmas.LeftLaws.{rounds_fit}
use Rattle.plan_runs.specs.Contents.{AnswersFiles, contents_of}
use Rattle.plan_runs.specs.Rounds.{plan_rounds}
use Rattle.plan_runs.specs.Runs.{RunsPlanTo}
use Rattle.plan_runs.proofs.in_turn.run_rounds.Goals as goal

pub returns-in_default-clause-outcome : goal.returns-in_default-clause-outcome
returns-in_default-clause-outcome g c =
    let now = g.F.Files.shows c.args.files.now in
    nothing_ran c.args.plan.now c.args.opened.now c.args.settings now
    (none_written c.args.plan.now c.args.opened.now c.requires.opened.0 now c.requires.plan
    c.requires.opened.1)

pub run_in_turn-requires : goal.run_in_turn-requires
run_in_turn-requires g c =
    record {
      opened = c.in-Ok.ensures.opened c.requires.opened.0
          (g.F.Files.shows c.args.files.now) c.requires.opened.1;
    }

pub returns-clause-ends : goal.returns-clause-ends
returns-clause-ends g c = λ contents hold enough.
    let before = g.F.Files.shows c.args.files.now in
    let after = g.F.Files.shows c.run_in_turn.new.files in
    let s = setup_of c.args.plan.now c.args.opened.now c.args.settings.max_capacity
    c.args.settings.bytes c.args.settings.block in
    let keeps = c.run_in_turn.ensures.keeps in
    c.run_in_turn.ensures.total s
    (c.in-Ok.ensures.right c.requires.opened.0 before c.requires.opened.1) contents
    (agrees c.args.plan.now c.args.opened.now c.args.settings before after c.in-Ok.network
    c.run_in_turn.new.self c.in-Ok.ensures.files keeps.same contents hold) enough

pub returns-clause-finishes : goal.returns-clause-finishes
returns-clause-finishes g c = λ forest contents hold enough.
    let before = g.F.Files.shows c.args.files.now in
    let after = g.F.Files.shows c.run_in_turn.new.files in
    let s = setup_of c.args.plan.now c.args.opened.now c.args.settings.max_capacity
    c.args.settings.bytes c.args.settings.block in
    let keeps = c.run_in_turn.ensures.keeps in
    let right = c.in-Ok.ensures.right c.requires.opened.0 before c.requires.opened.1 in
    ok_and IsNoStall c.run_in_turn.result
    (ok_map (EndsRun filter_shows c.in-Ok.network before c.run_in_turn.new.self after) IsNoStall
    (λ o end. end.flows s right forest) c.run_in_turn.result c.run_in_turn.ensures.outcome)
    (c.run_in_turn.ensures.total s right contents
    (agrees c.args.plan.now c.args.opened.now c.args.settings before after c.in-Ok.network
    c.run_in_turn.new.self c.in-Ok.ensures.files keeps.same contents hold) enough)

pub returns-clause-outcome : goal.returns-clause-outcome
returns-clause-outcome g c =
    let before = g.F.Files.shows c.args.files.now in
    let after = g.F.Files.shows c.run_in_turn.new.files in
    let s = setup_of c.args.plan.now c.args.opened.now c.args.settings.max_capacity
    c.args.settings.bytes c.args.settings.block in
    let right = c.in-Ok.ensures.right c.requires.opened.0 before c.requires.opened.1 in
    ran_in_turn c.args.plan.now c.args.opened.now c.args.settings before after c.in-Ok.network
    c.run_in_turn.new.self c.in-Ok.ensures.files right
    (new_unfailed filter_shows s before c.in-Ok.network right
    (c.in-Ok.ensures.empty c.requires.opened.0 before c.requires.opened.1))
    c.in-Ok.ensures.room c.run_in_turn.ensures.keeps c.run_in_turn.result
    (c.run_in_turn.ensures.ends s right) c.run_in_turn.ensures.truly

pub returns-clause-touches : goal.returns-clause-touches
returns-clause-touches g c =
    let keeps = c.run_in_turn.ensures.keeps in
    plan_touches c.args.plan.now c.args.opened.now (g.F.Files.shows c.args.files.now)
    (g.F.Files.shows c.run_in_turn.new.files) c.in-Ok.network c.in-Ok.ensures.files
    keeps.touches

pub returns-clause-in_time : goal.returns-clause-in_time
returns-clause-in_time g c = λ before opens held enough.
    let plan = c.args.plan.now in
    let now = g.F.Files.shows c.args.files.now in
    let after = g.F.Files.shows c.run_in_turn.new.files in
    let of = c.requires.plan in
    let own = openings_are_own of.script plan of.is_plan in
    let touches = returns-clause-touches g c in
    let rest = left plan c.args.opened.now before now after own opens held touches in
    let hold = sources_hold plan c.args.opened.now before now after own opens held touches in
    let fewer = rounds_fit plan (contents_of plan c.args.opened.now before) rest
    (plans_are_wired of.script plan of.body of.is_plan)
    (shortened plan c.args.opened.now before now after own opens held touches) in
    let within : plan_rounds plan rest < c.args.rounds = omega (arith, fewer, enough) in (
      returns-clause-ends g c rest hold within,
      λ forest. returns-clause-finishes g c forest rest hold within,
    )

pub returns-in_default-clause-holds : goal.returns-in_default-clause-holds
returns-in_default-clause-holds g c = λ before opens to.
    let now = g.F.Files.shows c.args.files.now in
    let of = c.requires.plan in
    outputs_hold c.args.plan.now c.args.opened.now before now now
    (openings_are_own of.script c.args.plan.now of.is_plan) opens to
    (plan_untouched c.args.plan.now c.args.opened.now now)
    (outputs_are_apart of.script c.args.plan.now of.body of.is_plan)

pub returns-clause-holds : goal.returns-clause-holds
returns-clause-holds g c = λ before opens to.
    let now = g.F.Files.shows c.args.files.now in
    let of = c.requires.plan in
    outputs_hold c.args.plan.now c.args.opened.now before now
    (g.F.Files.shows c.run_in_turn.new.files)
    (openings_are_own of.script c.args.plan.now of.is_plan) opens to
    (returns-clause-touches g c)
    (outputs_are_apart of.script c.args.plan.now of.body of.is_plan)

pub returns-in_default-clause-answers : goal.returns-in_default-clause-answers
returns-in_default-clause-answers g c = λ before opens to held.
    let now = g.F.Files.shows c.args.files.now in
    let of = c.requires.plan in
    answers c.args.plan.now c.args.opened.now before now now
    (openings_are_own of.script c.args.plan.now of.is_plan) opens held
    (plan_untouched c.args.plan.now c.args.opened.now now)
    (plans_are_wired of.script c.args.plan.now of.body of.is_plan) c.args.settings _
    (returns-in_default-clause-outcome g c) (returns-in_default-clause-holds g c before opens to)

pub returns-clause-answers : goal.returns-clause-answers
returns-clause-answers g c = λ before opens to held.
    let now = g.F.Files.shows c.args.files.now in
    let after = g.F.Files.shows c.run_in_turn.new.files in
    let of = c.requires.plan in
    let answered = answers c.args.plan.now c.args.opened.now before now after
    (openings_are_own of.script c.args.plan.now of.is_plan) opens held
    (returns-clause-touches g c) (plans_are_wired of.script c.args.plan.now of.body of.is_plan)
    c.args.settings in
    ok_map (RunsPlanTo c.args.plan.now c.args.opened.now c.args.settings now after)
    (AnswersFiles c.args.plan.now c.args.opened.now before after)
    (λ o runs. answered o runs (returns-clause-holds g c before opens to)) c.run_in_turn.result
    (returns-clause-outcome g c)

pub returns-in_default-names_of-clause-outcome : goal.returns-in_default-names_of-clause-outcome
returns-in_default-names_of-clause-outcome g c =
    let now = g.F.Files.shows c.args.files.now in
    nothing_ran c.args.plan.now c.args.opened.now c.args.settings now
    (none_written c.args.plan.now c.args.opened.now c.requires.opened.0 now c.requires.plan
    c.requires.opened.1)

pub returns-in_default-names_of-clause-holds : goal.returns-in_default-names_of-clause-holds
returns-in_default-names_of-clause-holds g c = λ before opens to.
    let now = g.F.Files.shows c.args.files.now in
    let of = c.requires.plan in
    outputs_hold c.args.plan.now c.args.opened.now before now now
    (openings_are_own of.script c.args.plan.now of.is_plan) opens to
    (plan_untouched c.args.plan.now c.args.opened.now now)
    (outputs_are_apart of.script c.args.plan.now of.body of.is_plan)

pub returns-in_default-names_of-clause-answers : goal.returns-in_default-names_of-clause-answers
returns-in_default-names_of-clause-answers g c = λ before opens to held.
    let now = g.F.Files.shows c.args.files.now in
    let of = c.requires.plan in
    answers c.args.plan.now c.args.opened.now before now now
    (openings_are_own of.script c.args.plan.now of.is_plan) opens held
    (plan_untouched c.args.plan.now c.args.opened.now now)
    (plans_are_wired of.script c.args.plan.now of.body of.is_plan) c.args.settings _
    (returns-in_default-names_of-clause-outcome g c) (returns-in_default-names_of-clause-holds g c before opens to)
