use Rattle.std.proofs.Common.{◌≡◌, ◌+◌, ◌<◌, Bool, true, false, inl, sym, subst, arith, refl}
use Rattle.std.proofs.Common.{IsSome}
use Rattle.machine.specs.declared.protocol.StageFault.TheVariants as fault
use Rattle.machine.specs.declared.protocol.Want.TheVariants.{Finished}
use Rattle.splice_tee.specs.BranchStates.{IsFirstLacking}
use Rattle.stages.specs.Cases.{WaitsForPipe}
use Rattle.stages.specs.Inlets.{reads}
use Rattle.stages.specs.Outlets.{writes}
use Rattle.stages.specs.inner.Moves.{Serves, GoesOn, node_fault}
use Rattle.stages.specs.inner.Staged.{Staged}
use Rattle.stages.specs.inner.Steps.{InCase}
use Rattle.run_types.specs.declared.node_state.NodeState.TheVariants.{Ended, Failed}
use Rattle.run_types.specs.declared.step.Step.{Step}
use Rattle.run_types.specs.declared.step.Step.TheVariants as step
use Rattle.stages.proofs.lemmas.GoingOn.{reads_go_on}
use Rattle.stages.proofs.lemmas.AnswerLaws.{waits_full}
use Rattle.stages.proofs.lemmas.StatusLaws.{inside, outside, opened, served, goes_with, runs_with}
use Rattle.stages.proofs.lemmas.StepLaws.{case_served, case_over, case_failed, outlet_of}
use Rattle.stages.proofs.stage.Stage.serve.Goals as goal

pub returns-in-Ok-true-clause-case : goal.returns-in-Ok-true-clause-case
returns-in-Ok-true-clause-case g c =
    λ answer k.
    let shows = g.M.Machine.shows in
    let is = c.self.view_is in
    let i = c.self.inside in
    let over = c.is_closed.ensures c.if-is_closed.true in
    case_over answer (shows i.machine) i.inlet c.serve.new.self over.0 over.1
    (inside shows is (λ m j o. m.wanted ≡ Finished → j.hung_up ≡ true) c.requires.hung_up)
    (case_served answer (shows i.machine) i.inlet c.in-Ok-true.field-0 i.outlet c.serve.new.self
    c.in-Ok-true.ensures.serves (opened shows is answer c.requires.running k))

pub returns-in-Ok-true-2-clause-case : goal.returns-in-Ok-true-2-clause-case
returns-in-Ok-true-2-clause-case g c =
    λ answer k. served g.M.Machine.shows c.self.view_is answer c.in-Ok-true.field-0 c.serve.new.self
    c.requires.running c.in-Ok-true.ensures.serves k

pub returns-in-Ok-true-2-clause-says : goal.returns-in-Ok-true-2-clause-says
returns-in-Ok-true-2-clause-says g c =
    λ answer k.
    let shows = g.M.Machine.shows in
    let i = c.self.inside in
    let now = opened shows c.self.view_is answer c.requires.running k in
    let more = c.in-Ok-true.ensures.serves.event c.in-Ok-true.field-0-test
    (shows i.machine).wanted now.made
    (outlet_of answer (shows i.machine) i.inlet i.outlet now) in
    outside shows c.self.view_is
    (λ m j o. reads j.ends + writes o.ends < reads i.inlet.ends + writes c.serve.new.self.ends)
    (omega (arith, more))

pub returns-in-Ok-false-clause-case : goal.returns-in-Ok-false-clause-case
returns-in-Ok-false-clause-case g c =
    λ answer k. served g.M.Machine.shows c.self.view_is answer c.in-Ok-false.field-0
    c.serve.new.self c.requires.running c.in-Ok-false.ensures.serves k

pub returns-in-Ok-false-clause-says : goal.returns-in-Ok-false-clause-says
returns-in-Ok-false-clause-says g c =
    λ answer k.
    let shows = g.M.Machine.shows in
    let is = c.self.view_is in
    let i = c.self.inside in
    let still : c.in-Ok-false.field-0 ≡ false = c.in-Ok-false.field-0-test in
    let waits =
    waits_full (shows i.machine) i.inlet i.outlet c.serve.new.self c.args.first
    (subst (λ (b : Bool). Serves b i.outlet c.serve.new.self) still
    c.in-Ok-false.ensures.serves) (c.in-Ok-false.ensures.refused still)
    (inside shows is (λ m j o. IsSome o.front) c.requires.front)
    (inside shows is (λ m j o. IsFirstLacking o.served c.args.first) c.requires.first)
    (inside shows is (λ m j o. m.wanted ≡ Finished → j.hung_up ≡ true) c.requires.hung_up) in
    outside shows is (λ m j o. WaitsForPipe m j o
    (shows i.machine) i.inlet c.serve.new.self c.pipe.result)
    (inl (c.args.first, c.pipe.ensures, waits))

pub returns-in-Err-clause-case : goal.returns-in-Err-clause-case
returns-in-Err-clause-case g c =
    λ answer k.
    let shows = g.M.Machine.shows in
    let i = c.self.inside in
    let e = c.in-Err.ensures.err refl in
    subst (λ x. InCase shows answer x) (sym c.fail.ensures.state)
    (case_failed answer (shows i.machine) i.inlet c.serve.new.self e.2
    (case_served answer (shows i.machine) i.inlet e.0 i.outlet c.serve.new.self e.1
    (opened shows c.self.view_is answer c.requires.running k)))

pub returns-in-Ok-true-clause-goes_on : goal.returns-in-Ok-true-clause-goes_on
returns-in-Ok-true-clause-goes_on g c =
    let over = c.is_closed.ensures c.if-is_closed.true in
    goes_with g.M.Machine.shows c.self.view_is c.self.inside.inlet c.serve.new.self Ended step.Ended
    (reads_go_on c.self.inside.inlet) c.in-Ok-true.ensures.serves.on refl (λ _. over.2)

pub returns-in-Ok-true-2-clause-goes_on : goal.returns-in-Ok-true-2-clause-goes_on
returns-in-Ok-true-2-clause-goes_on g c =
    runs_with g.M.Machine.shows c.self.view_is c.self.inside.inlet c.serve.new.self step.Moved
    c.requires.running (λ r. r) (reads_go_on c.self.inside.inlet) c.in-Ok-true.ensures.serves.on

pub returns-in-Ok-false-clause-goes_on : goal.returns-in-Ok-false-clause-goes_on
returns-in-Ok-false-clause-goes_on g c =
    runs_with g.M.Machine.shows c.self.view_is c.self.inside.inlet c.serve.new.self
    (step.Waits c.pipe.result) c.requires.running (λ r. r)
    (reads_go_on c.self.inside.inlet) c.in-Ok-false.ensures.serves.on

pub returns-in-Err-clause-goes_on : goal.returns-in-Err-clause-goes_on
returns-in-Err-clause-goes_on g c =
    let e = c.in-Err.ensures.err refl in
    subst (λ (r : Step). GoesOn c.args.self.now c.fail.new.self r) (sym c.fail.ensures.says)
    (subst (λ (x : Staged g.row.M.Denot). GoesOn c.args.self.now x step.Failed)
    (sym c.fail.ensures.state)
    (goes_with g.M.Machine.shows c.self.view_is c.self.inside.inlet c.serve.new.self
    (Failed (node_fault fault.NoMemory)) step.Failed (reads_go_on c.self.inside.inlet) e.1.on
    (fault.NoMemory, refl) (λ x. absurd (cc x))))
