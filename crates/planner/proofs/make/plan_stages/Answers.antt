use Rattle.std.proofs.Common.{◌∷◌, subst}
use Rattle.std.proofs.lemmas.Result.{err_from_is_err_and}
use Rattle.graphs.specs.NamesByPlace.{texts}
use Rattle.planner.specs.declared.fault.PlanFault.TheVariants as fault
use Rattle.planner.specs.Faults.{fifo_faults, later_faults}
use Rattle.planner.specs.Planned.{Planned, PlansOrdered}
use Rattle.planner.proofs.lemmas.MadePlan.{plans_from, uses_lent}
use Rattle.planner.proofs.lemmas.RankLaws.{meets_front}
use Rattle.planner.proofs.make.plan_stages.Goals as goal

pub returns-in_err-check_fifos : goal.returns-in_err-check_fifos
returns-in_err-check_fifos c =
    let r =
    err_from_is_err_and c.from_residual-in_err-check_fifos.result
    c.from_residual-in_err-check_fifos.ensures.1 in
    let fifos = texts c.args.fifos.now in
    let ss = c.args.stages.items in
    let f = c.in_err-check_fifos.field-0.0 in
    let uses =
    uses_lent fifos ss c.as_slice.result.now c.in_ok-uses.uses.items c.as_slice-2.result.now
    c.as_slice.ensures.value c.as_slice-2.ensures.value c.in_ok-uses.ensures in
    rw (r.1, r.2) (meets_front fifos ss (Unit {0}) Planned fifo_faults (fault.Cycle
    ∷ later_faults) f (c.in_err-check_fifos.ensures fifos ss uses))

pub plan_named-requires-clause-uses : goal.plan_named-requires-clause-uses
plan_named-requires-clause-uses c =
    let fifos = texts c.args.fifos.now in
    let uses =
    uses_lent fifos c.args.stages.items c.as_slice.result.now c.in_ok-uses.uses.items
    c.as_slice-3.result.now c.as_slice.ensures.value c.as_slice-3.ensures.value
    c.in_ok-uses.ensures in
    rw c.in_ok-names.ensures uses

pub returns : goal.returns
returns c =
    let fifos = texts c.args.fifos.now in
    let ss = c.args.stages.items in
    let uses =
    uses_lent fifos ss c.as_slice.result.now c.in_ok-uses.uses.items c.as_slice-2.result.now
    c.as_slice.ensures.value c.as_slice-2.ensures.value c.in_ok-uses.ensures in
    let named =
    subst (λ fs. PlansOrdered fs ss c.args.negated c.plan_named.result) c.in_ok-names.ensures
    c.plan_named.ensures in
    plans_from fifos ss c.args.negated c.plan_named.result
    (c.in_ok-check_fifos.ensures fifos ss uses) named
