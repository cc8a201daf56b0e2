use Rattle.std.proofs.Common.{ℕ, List, Option, None, subst, sym}
use Rattle.std.specs.Prelude.{IsSome}
use Rattle.std.proofs.lemmas.Result.{IfOk-weaker}
use Rattle.graphs.specs.inner.Circles as tables
use Rattle.graphs.specs.Graph.{Graph}
use Rattle.network_laws.specs.Circles.{MeetsCircle}
use Rattle.network_laws.proofs.CircleLaws.{stuck_waits_meet_circle}
use Rattle.planner.specs.Planned.{graph_of}
use Rattle.step_scheduler.proofs.lemmas.FollowLaws.{meets, some_met}
use Rattle.step_scheduler.proofs.circles.circle.Goals as goal

pub returns-clause-met : goal.returns-clause-met
returns-clause-met c =
    let g = graph_of c.args.plan.now in
    let waits = c.args.waits.now in
    let next = c.in_ok-next.next.items in
    let first = c.in-Some.first in
    IfOk-weaker c.circle.result (tables.MeetsCircle c.as_slice.result.now first)
    (MeetsCircle g waits)
    (λ found m. meets g waits next c.in_ok-next.ensures.table c.in_ok-next.ensures.others first
    c.in-Some.ensures found
    (subst (λ (ns : List (Option ℕ)). tables.MeetsCircle ns first found) c.as_slice.ensures.value
    m))
    c.circle.ensures

pub returns-clause-stall : goal.returns-clause-stall
returns-clause-stall c s st same plan stuck are =
    let waits = c.args.waits.now in
    let never = λ (m : MeetsCircle (graph_of c.args.plan.now) waits None). stuck_waits_meet_circle s
    st waits plan stuck are (subst (λ (g : Graph). MeetsCircle g waits None) (sym same) m) in
    IfOk-weaker c.circle.result (MeetsCircle (graph_of c.args.plan.now) waits) IsSome
    (λ found m. some_met (graph_of c.args.plan.now) waits never found m) (returns-clause-met c)
