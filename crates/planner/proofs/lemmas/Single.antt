-- A script has at most one plan.
use Rattle.std.proofs.Common.{List, length, sym, ap₂, ◌∙◌, subst}
use Rattle.std.proofs.lemmas.Option.{same_Some}
use Rattle.graphs.specs.Orders.{IsPlannedOrder}
use Rattle.graphs.proofs.OrderLaws.{planned_is_one}
use Rattle.planner.specs.Places.{Stage}
use Rattle.planner.specs.Stages.{is_negated}
use Rattle.planner.specs.Planned.{joined, plan_of}
use Rattle.planner.specs.Laws.{PlansAreOne}

-- a script has at most one plan
pub plans_are_one : PlansAreOne
plans_are_one s plan other p q =
    let e = same_Some p.ss q.ss (sym p.means ∙ q.means) in
    let planned =
    subst (λ (ss : List Stage). IsPlannedOrder (length ss) (joined s.fifos ss) q.order)
    (sym e) q.planned in
    let o = planned_is_one (length p.ss) (joined s.fifos p.ss) p.order q.order p.planned planned in
    p.is ∙ (ap₂ (λ ss order. plan_of s.fifos ss (is_negated s.pipelines) order) e o ∙ sym q.is)
