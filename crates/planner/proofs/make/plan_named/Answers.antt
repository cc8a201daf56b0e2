use Rattle.std.proofs.Common.{length, ◌<◌, ◌^◌, ◌∷◌, [], List, Err, Ok, refl, inl, ap, sym, subst}
use Rattle.std.proofs.Common.{◌∙◌}
use Rattle.std.proofs.lemmas.Result.{err_from_is_err_and}
use Rattle.graphs.specs.Orders.{IsPlannedOrder}
use Rattle.planner.specs.declared.fault.PlanFault.TheVariants as fault
use Rattle.planner.specs.Ends.{in_ends, out_ends}
use Rattle.planner.specs.Faults.{HasCycle, MeetsFaults, later_faults}
use Rattle.planner.specs.Laws.{AreInTurn}
use Rattle.planner.specs.Places.{Stage}
use Rattle.planner.specs.Planned.{Planned, PlansOrdered, joined, plan_of}
use Rattle.planner.proofs.lemmas.MadePlan.{cycle_there, order_there, no_cycle, uses_kept}
use Rattle.planner.proofs.lemmas.Ordered.{ends_of_stages}
use Rattle.planner.proofs.lemmas.RankLaws.{meets_behind}
use Rattle.planner.proofs.make.plan_named.Goals as goal

pub returns-in_default : goal.returns-in_default
returns-in_default c =
    let fifos = c.args.fifos.now in
    let ss = c.as_slice-lent.result.now in
    let ins = c.as_slice-inputs.ensures.value ∙ c.in_ok-ins.ensures in
    let outs = c.as_slice-branches.ensures.value ∙ c.in_ok-outs.ensures in
    inl (
      refl,
      subst (λ (us : List Stage). HasCycle fifos us) c.as_slice-lent.ensures.value
          (cycle_there fifos ss (length ss) c.as_slice-inputs.result.now
          c.as_slice-branches.result.now c.in_ok-order.field-0 ins outs c.in_default.is
          c.in_ok-order.ensures),
    )

pub returns-in_err-check_later : goal.returns-in_err-check_later
returns-in_err-check_later c =
    let r =
    err_from_is_err_and c.from_residual-in_err-check_later.result
    c.from_residual-in_err-check_later.ensures.1 in
    let fifos = c.args.fifos.now in
    let ss = c.as_slice-lent.result.now in
    let ins = c.as_slice-inputs.ensures.value ∙ c.in_ok-ins.ensures in
    let outs = c.as_slice-branches.ensures.value ∙ c.in_ok-outs.ensures in
    let turn =
    subst (λ (us : List Stage). AreInTurn 0 us) (sym c.as_slice-lent.ensures.value)
    c.requires.turn in
    let planned =
    order_there fifos ss (length ss) c.as_slice-inputs.result.now
    c.as_slice-branches.result.now c.in_ok-order.field-0 c.in-Some.order ins outs c.in-Some.is
    c.in_ok-order.ensures in
    let none = no_cycle fifos ss c.in-Some.order.items turn planned in
    let f = c.in_err-check_later.field-0.0 in
    rw (r.1, r.2) (subst (λ (us : List Stage). MeetsFaults {A = Planned} fifos us (fault.Cycle
    ∷ later_faults) (Err f)) c.as_slice-lent.ensures.value
    (meets_behind fifos ss (Unit {0}) Planned (fault.Cycle
    ∷ []) later_faults f (none, tt) c.in_err-check_later.ensures))

pub returns : goal.returns
returns c =
    let fifos = c.args.fifos.now in
    let ss = c.as_slice-lent.result.now in
    let ins = c.as_slice-inputs.ensures.value ∙ c.in_ok-ins.ensures in
    let outs = c.as_slice-branches.ensures.value ∙ c.in_ok-outs.ensures in
    let turn =
    subst (λ (us : List Stage). AreInTurn 0 us) (sym c.as_slice-lent.ensures.value)
    c.requires.turn in
    let planned =
    order_there fifos ss (length ss) c.as_slice-inputs.result.now
    c.as_slice-branches.result.now c.in_ok-order.field-0 c.in-Some.order ins outs c.in-Some.is
    c.in_ok-order.ensures in
    let none = no_cycle fifos ss c.in-Some.order.items turn planned in
    let plan = c.in_ok-plan.ensures
    ∙ (ap (λ os. plan_of fifos c.args.stages.items c.args.negated os) c.as_slice.ensures.value
    ∙ ap (λ us. plan_of fifos us c.args.negated c.in-Some.order.items)
    (sym c.as_slice-lent.ensures.value)) in
    subst (λ (us : List Stage). PlansOrdered fifos us c.args.negated (Ok c.in_ok-plan.plan))
    c.as_slice-lent.ensures.value
    ((none, c.in_ok-check_later.ensures), (c.in-Some.order.items, planned, plan))

pub stage_order-requires : goal.stage_order-requires
stage_order-requires c =
    let fifos = c.args.fifos.now in
    let ss = c.as_slice-lent.result.now in
    let ins = c.as_slice-inputs.ensures.value ∙ c.in_ok-ins.ensures in
    let outs = c.as_slice-branches.ensures.value ∙ c.in_ok-outs.ensures in
    let turn =
    subst (λ (us : List Stage). AreInTurn 0 us) (sym c.as_slice-lent.ensures.value)
    c.requires.turn in
    let few =
    subst (λ (us : List Stage). length us
    < 2 ^ 62) (sym c.as_slice-lent.ensures.value) c.requires.few.1 in
    rw (c.count.ensures, ins, outs) (ends_of_stages fifos ss turn c.requires.few.0 few)

pub check_later-requires-clause-uses : goal.check_later-requires-clause-uses
check_later-requires-clause-uses c =
    uses_kept c.args.fifos.now c.as_slice-lent.result.now c.args.stages.items c.args.uses.now
    c.as_slice-lent.ensures.value c.requires.uses

pub plan_in_order-requires-clause-ins : goal.plan_in_order-requires-clause-ins
plan_in_order-requires-clause-ins c = c.in_ok-ins.ensures
    ∙ ap (in_ends c.args.fifos.now) c.as_slice-lent.ensures.value

pub plan_in_order-requires-clause-outs : goal.plan_in_order-requires-clause-outs
plan_in_order-requires-clause-outs c = c.in_ok-outs.ensures
    ∙ ap (out_ends c.args.fifos.now) c.as_slice-lent.ensures.value

pub plan_in_order-requires-clause-planned : goal.plan_in_order-requires-clause-planned
plan_in_order-requires-clause-planned c =
    let fifos = c.args.fifos.now in
    let ss = c.as_slice-lent.result.now in
    let ins = c.as_slice-inputs.ensures.value ∙ c.in_ok-ins.ensures in
    let outs = c.as_slice-branches.ensures.value ∙ c.in_ok-outs.ensures in
    let planned =
    order_there fifos ss (length ss) c.as_slice-inputs.result.now
    c.as_slice-branches.result.now c.in_ok-order.field-0 c.in-Some.order ins outs c.in-Some.is
    c.in_ok-order.ensures in
    rw c.as_slice.ensures.value
    (subst (λ (us : List Stage). IsPlannedOrder (length us) (joined fifos us)
    c.in-Some.order.items) c.as_slice-lent.ensures.value planned)
