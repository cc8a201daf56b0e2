use Rattle.std.proofs.Common.{◌∙◌, subst, ap}
use Rattle.graphs.specs.NamesByPlace.{texts}
use Rattle.planner.specs.Planned.{PlansStages}
use Rattle.planner.specs.Stages.{is_negated}
use Rattle.planner.proofs.lemmas.Forests.{planned_forest}
use Rattle.planner.proofs.lemmas.MadePlan.{planned_script}
use Rattle.planner.proofs.lemmas.TurnLaws.{stages_in_turn}
use Rattle.planner.proofs.make.make_plan.Goals as goal

pub plan_stages-requires-clause-turn : goal.plan_stages-requires-clause-turn
plan_stages-requires-clause-turn c =
    stages_in_turn c.args.script.now c.in_ok-stages.stages.items c.in_ok-stages.ensures

pub returns-clause-meets : goal.returns-clause-meets
returns-clause-meets c =
    let s = c.args.script.now in
    let ss = c.in_ok-stages.stages.items in
    let fifos = ap texts c.as_slice-3.ensures.value
    ∙ (c.in_ok-fifos.ensures ∙ c.as_slice.ensures) in
    let negated = c.is_negated-negated.ensures ∙ ap is_negated c.as_slice-2.ensures in
    let named =
    subst (λ fs. PlansStages fs ss c.is_negated-negated.result c.plan_stages.result) fifos
    c.plan_stages.ensures in
    planned_script s ss c.is_negated-negated.result negated c.in_ok-stages.ensures
    c.plan_stages.result named

pub returns-clause-forest : goal.returns-clause-forest
returns-clause-forest c =
    planned_forest c.args.script.now c.plan_stages.result (returns-clause-meets c)
