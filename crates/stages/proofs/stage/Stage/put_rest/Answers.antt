use Rattle.std.proofs.Common.{◌≡◌, true, refl, sym, ap}
use Rattle.splice_tee.specs.BranchStates.{SomeOpen}
use Rattle.stages.specs.Stages.{is_close}
use Rattle.run_types.specs.declared.node_state.NodeState.TheVariants.{Ended}
use Rattle.run_types.specs.declared.step.Step.TheVariants as step
use Rattle.stages.specs.Owed.{is_finished}
use Rattle.stages.proofs.lemmas.GoingOn.{reads_go_on, advanced_goes_on}
use Rattle.stages.proofs.lemmas.SpentLaws.{some_open_on}
use Rattle.stages.proofs.lemmas.StatusLaws.{inside, opened, advanced, said_advanced, goes_with}
use Rattle.stages.proofs.lemmas.StepLaws.{case_advanced, case_over, outlet_of}
use Rattle.stages.proofs.stage.Stage.put_rest.Goals as goal

pub returns-in-Some-clause-case : goal.returns-in-Some-clause-case
returns-in-Some-clause-case g c =
    λ answer k. c.serve.ensures.case answer
    (advanced g.M.Machine.shows c.self.view_is answer true c.advance.new.self c.requires.running
    c.advance.ensures.advances (sym (ap is_finished c.requires.finished)) k)

pub returns-in-Some-clause-says : goal.returns-in-Some-clause-says
returns-in-Some-clause-says g c =
    λ answer k.
    let shows = g.M.Machine.shows in
    let now = advanced shows c.self.view_is answer true c.advance.new.self c.requires.running
    c.advance.ensures.advances (sym (ap is_finished c.requires.finished)) k in
    said_advanced shows c.self.view_is c.advance.new.self c.serve.new.self c.serve.result
    c.advance.ensures.advances.ends (c.serve.ensures.says answer now)

pub returns-in-None-clause-case : goal.returns-in-None-clause-case
returns-in-None-clause-case g c =
    λ answer k.
    let shows = g.M.Machine.shows in
    let is = c.self.view_is in
    let i = c.self.inside in
    let m = shows i.machine in
    let f = inside shows is (λ m j o. true ≡ is_finished m.wanted)
    (sym (ap is_finished c.requires.finished)) in
    let now = opened shows is answer c.requires.running k in
    let spent = c.in-None.ensures.none refl m.wanted now.made f
    (outlet_of answer m i.inlet i.outlet now)
    (inside shows is (λ m j o. SomeOpen o.served) c.requires.opens) in
    case_over answer m i.inlet c.advance.new.self (ap is_close spent.0) spent.1
    (λ _. inside shows is (λ m j o. j.hung_up ≡ true) c.requires.hung_up)
    (case_advanced answer m i.inlet true i.outlet c.advance.new.self c.advance.ensures.advances f
    now)

pub returns-in-None-clause-goes_on : goal.returns-in-None-clause-goes_on
returns-in-None-clause-goes_on g c =
    let shows = g.M.Machine.shows in
    let is = c.self.view_is in
    let i = c.self.inside in
    goes_with shows is i.inlet c.advance.new.self Ended step.Ended (reads_go_on i.inlet)
    (advanced_goes_on true i.outlet c.advance.new.self c.advance.ensures.advances) refl
    (λ _. some_open_on i.outlet.served c.advance.new.self.served c.advance.ensures.advances.opens
    (inside shows is (λ m j o. SomeOpen o.served) c.requires.opens))
