use Rattle.std.proofs.Common.{◌+◌, ◌<◌, arith}
use Rattle.stages.specs.Inlets.{reads}
use Rattle.stages.specs.Outlets.{writes}
use Rattle.run_types.specs.declared.step.Step.TheVariants as step
use Rattle.stages.proofs.lemmas.GoingOn.{reads_go_on}
use Rattle.stages.proofs.lemmas.StatusLaws.{outside, opened, served, runs_with}
use Rattle.stages.proofs.lemmas.StepLaws.{outlet_of}
use Rattle.stages.proofs.stage.Stage.close_or_take.Goals as goal

pub returns-then-close_gone-clause-case : goal.returns-then-close_gone-clause-case
returns-then-close_gone-clause-case g c =
    λ answer k. served g.M.Machine.shows c.self.view_is answer c.close_gone.result
    c.close_gone.new.self c.requires.running c.close_gone.ensures.serves k

pub returns-then-close_gone-clause-goes_on : goal.returns-then-close_gone-clause-goes_on
returns-then-close_gone-clause-goes_on g c =
    runs_with g.M.Machine.shows c.self.view_is c.self.inside.inlet c.close_gone.new.self step.Moved
    c.requires.running (λ r. r) (reads_go_on c.self.inside.inlet) c.close_gone.ensures.serves.on

pub returns-then-close_gone-clause-says : goal.returns-then-close_gone-clause-says
returns-then-close_gone-clause-says g c =
    λ answer k spent opens.
    let shows = g.M.Machine.shows in
    let i = c.self.inside in
    let now = opened shows c.self.view_is answer c.requires.running k in
    let more = c.close_gone.ensures.serves.event c.if-close_gone.true
    (shows i.machine).wanted now.made
    (outlet_of answer (shows i.machine) i.inlet i.outlet now) in
    outside shows c.self.view_is
    (λ m j o. reads j.ends + writes o.ends < reads i.inlet.ends + writes
    c.close_gone.new.self.ends) (omega (arith, more))
