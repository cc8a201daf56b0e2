use Rattle.std.proofs.Common.{inl, ◌≡◌}
use Rattle.machine.specs.declared.protocol.Want.TheVariants.{Finished}
use Rattle.run_types.specs.declared.step.Step.TheVariants as step
use Rattle.stages.proofs.lemmas.GoingOn.{hung_goes_on, writes_go_on}
use Rattle.stages.proofs.lemmas.StatusLaws.{inside, opened, still, runs_with}
use Rattle.stages.proofs.lemmas.StepLaws.{case_hung}
use Rattle.stages.proofs.stage.Stage.hang_up.Goals as goal

pub returns-clause-case : goal.returns-clause-case
returns-clause-case g c =
    λ answer k.
    let shows = g.M.Machine.shows in
    let i = c.self.inside in
    let is = c.self.view_is in
    still shows is answer (shows i.machine) c.hang_up.new.self i.outlet c.requires.running
    (case_hung answer (shows i.machine) i.inlet c.hang_up.new.self i.outlet
    c.hang_up.ensures.hung_up
    (inl (inside shows is (λ m j o. m.wanted ≡ Finished) c.requires.finished))
    (opened shows is answer c.requires.running k))

pub returns-clause-goes_on : goal.returns-clause-goes_on
returns-clause-goes_on g c =
    let i = c.self.inside in
    runs_with g.M.Machine.shows c.self.view_is c.hang_up.new.self i.outlet step.Moved
    c.requires.running (λ r. r)
    (hung_goes_on i.inlet c.hang_up.new.self c.hang_up.ensures.hung_up) (writes_go_on i.outlet)
