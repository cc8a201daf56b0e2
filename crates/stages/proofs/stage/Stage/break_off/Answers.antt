use Rattle.std.proofs.Common.{refl, sym, subst}
use Rattle.splice_tee.specs.BranchStates.{NoneOpen}
use Rattle.stages.specs.Outlets.{Putting, WritesGoOn}
use Rattle.stages.specs.Cases.{CaseOf}
use Rattle.run_types.specs.declared.node_state.NodeState.TheVariants.{Broken}
use Rattle.run_types.specs.declared.step.Step.TheVariants as step
use Rattle.stages.proofs.lemmas.GoingOn.{hung_goes_on, cleared_goes_on}
use Rattle.stages.proofs.lemmas.StatusLaws.{inside, opened, goes_with}
use Rattle.stages.proofs.lemmas.StepLaws.{case_broken}
use Rattle.stages.proofs.stage.Stage.break_off.Goals as goal

pub returns-clause-case : goal.returns-clause-case
returns-clause-case g c =
    λ answer k.
    let shows = g.M.Machine.shows in
    let i = c.self.inside in
    let is = c.self.view_is in
    subst (λ (x : Putting). CaseOf answer Broken (shows i.machine) c.hang_up.new.self x)
    (sym c.clear.ensures)
    (case_broken answer (shows i.machine) i.inlet c.hang_up.new.self i.outlet
    (inside shows is (λ m j o. NoneOpen o.served) c.requires.none) c.hang_up.ensures.hung_up
    (opened shows is answer c.requires.running k))

pub returns-clause-goes_on : goal.returns-clause-goes_on
returns-clause-goes_on g c =
    let i = c.self.inside in
    goes_with g.M.Machine.shows c.self.view_is c.hang_up.new.self c.clear.new.self Broken
    step.Broken (hung_goes_on i.inlet c.hang_up.new.self c.hang_up.ensures.hung_up)
    (subst (λ (x : Putting). WritesGoOn i.outlet x) (sym c.clear.ensures)
    (cleared_goes_on i.outlet)) refl (λ e. absurd (cc e))
