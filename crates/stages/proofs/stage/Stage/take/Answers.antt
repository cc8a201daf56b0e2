use Rattle.std.proofs.Common.{false, inl, inr, rules}
use Rattle.bounded_pipe.specs.Events.{SameReading}
use Rattle.splice_tee.specs.BranchStates.{SomeOpen}
use Rattle.stages.specs.Outlets.{Spent}
use Rattle.stages.specs.Cases.{WaitsForPipe}
use Rattle.stages.specs.inner.Moves.{node_fault}
use Rattle.stages.specs.inner.Steps.{TakesAtMostOne}
use Rattle.run_types.specs.declared.node_state.NodeState.TheVariants.{Running}
use Rattle.stages.proofs.lemmas.FeedLaws.{case_handed, case_handed_failed}
use Rattle.stages.proofs.lemmas.AnswerLaws.{waits_empty}
use Rattle.stages.proofs.lemmas.StatusLaws.{inside, outside, opened, still, wants, handed}
use Rattle.stages.proofs.lemmas.StatusLaws.{handed_failed}
use Rattle.stages.proofs.lemmas.StepLaws.{keeps_from, same_taken, still_taking}
use Rattle.stages.proofs.stage.Stage.take.Goals as goal

pub returns-in_default-clause-case : goal.returns-in_default-clause-case
returns-in_default-clause-case g c =
    λ answer k.
    let shows = g.M.Machine.shows in
    let i = c.self.inside in
    still shows c.self.view_is answer (shows i.machine) c.take.new.self i.outlet c.requires.running
    (keeps_from answer Running (shows i.machine) i.inlet c.take.new.self i.outlet
    (still_taking i.inlet c.take.new.self (c.in_default.ensures.none (search rules)).0)
    (opened shows c.self.view_is answer c.requires.running k))

pub returns-in_default-clause-says : goal.returns-in_default-clause-says
returns-in_default-clause-says g c =
    λ spent opens.
    let shows = g.M.Machine.shows in
    let is = c.self.view_is in
    let i = c.self.inside in
    let m = shows i.machine in
    let none = c.in_default.ensures.none (search rules) in
    let waits =
    waits_empty m i.inlet c.take.new.self i.outlet c.args.input none.0 none.1
    (wants shows is c.args.input c.requires.want)
    (inside shows is (λ m j o. Spent false o) spent)
    (inside shows is (λ m j o. SomeOpen o.served) opens) in
    outside shows is (λ x j o. WaitsForPipe x j o m c.take.new.self i.outlet c.pipe.result)
    (inr (c.args.input, c.pipe.ensures, waits))

pub returns-in_default-clause-takes : goal.returns-in_default-clause-takes
returns-in_default-clause-takes g c =
    let i = c.self.inside in
    let j = c.take.new.self in
    let same = (c.in_default.ensures.none (search rules)).0 in
    outside g.M.Machine.shows c.self.view_is (λ m x o. TakesAtMostOne c.args.input x j)
    (inl (same_taken SameReading i.inlet.ends j.ends (λ r s h. h.taken) same.ends))

pub returns-in-Ok-clause-case : goal.returns-in-Ok-clause-case
returns-in-Ok-clause-case g c =
    λ answer.
    let shows = g.M.Machine.shows in
    let is = c.self.view_is in
    let i = c.self.inside in
    let j = c.take.new.self in
    let n = c.hand.new.machine in
    let o = c.hand.new.outlet in
    let h = c.in-Ok.ensures in
    let wanted = wants shows is c.args.input c.requires.want in
    handed shows is answer (shows n) j o o.owed c.requires.running h.same
    (case_handed answer (shows i.machine)
    (shows n) i.inlet j i.outlet o.owed c.args.input c.in-Some.item c.in-Some.ensures.some
    wanted h.ok h.long (g.met.M.Machine.lawful n) h.inputs)

pub returns-in-Err-clause-case : goal.returns-in-Err-clause-case
returns-in-Err-clause-case g c =
    λ answer.
    let shows = g.M.Machine.shows in
    let is = c.self.view_is in
    let i = c.self.inside in
    let j = c.take.new.self in
    let n = c.hand.new.machine in
    let o = c.hand.new.outlet in
    let h = c.in-Err.ensures in
    let wanted = wants shows is c.args.input c.requires.want in
    handed_failed shows is answer n j o o.owed
    (node_fault c.in-Err.fault) c.requires.running c.fail.ensures.state h.same
    (case_handed_failed answer (shows i.machine)
    (shows n) i.inlet j i.outlet o.owed c.args.input c.in-Some.item c.in-Err.fault
    c.in-Some.ensures.some wanted (λ e. h.too_large (search rules)))
