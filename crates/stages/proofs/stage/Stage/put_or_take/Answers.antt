use Rattle.std.proofs.Common.{◌≡◌, false, ⊎_elim, inl, inr, refl, sym, ap, subst, Option, IsNone}
use Rattle.machine.specs.declared.piece.Item.{Item}
use Rattle.splice_tee.specs.BranchStates.{SomeOpen}
use Rattle.stages.specs.Owed.{is_finished}
use Rattle.stages.specs.inner.Steps.{TakesInTurn}
use Rattle.stages.proofs.lemmas.SpentLaws.{some_open_on}
use Rattle.stages.proofs.lemmas.StatusLaws.{inside, outside, opened, wants, advanced, said_advanced}
use Rattle.stages.proofs.lemmas.StepLaws.{outlet_of}
use Rattle.stages.proofs.stage.Stage.put_or_take.Goals as goal

pub returns-in-Some-clause-case : goal.returns-in-Some-clause-case
returns-in-Some-clause-case g c =
    λ answer k. c.serve.ensures.case answer
    (advanced g.M.Machine.shows c.self.view_is answer false c.advance.new.self
    c.requires.running c.advance.ensures.advances (sym (ap is_finished c.requires.want)) k)

pub returns-in-Some-clause-says : goal.returns-in-Some-clause-says
returns-in-Some-clause-says g c =
    λ answer k.
    let shows = g.M.Machine.shows in
    let now = advanced shows c.self.view_is answer false c.advance.new.self c.requires.running
    c.advance.ensures.advances (sym (ap is_finished c.requires.want)) k in
    said_advanced shows c.self.view_is c.advance.new.self c.serve.new.self c.serve.result
    c.advance.ensures.advances.ends (c.serve.ensures.says answer now)

pub returns-in-None-clause-case : goal.returns-in-None-clause-case
returns-in-None-clause-case g c =
    λ answer k. c.close_or_take.ensures.case answer
    (advanced g.M.Machine.shows c.self.view_is answer false c.advance.new.self
    c.requires.running c.advance.ensures.advances (sym (ap is_finished c.requires.want)) k)

pub returns-in-None-clause-says : goal.returns-in-None-clause-says
returns-in-None-clause-says g c =
    λ answer k.
    let shows = g.M.Machine.shows in
    let is = c.self.view_is in
    let i = c.self.inside in
    let m = shows i.machine in
    let opens_on = inside shows is (λ m j o. SomeOpen o.served) c.requires.opens in
    let now = opened shows is answer c.requires.running k in
    let spent = c.in-None.ensures.none refl m.wanted now.made
    (inside shows is (λ m j o. false ≡ is_finished m.wanted)
    (sym (ap is_finished c.requires.want)))
    (outlet_of answer m i.inlet i.outlet now) opens_on in
    let on = advanced shows is answer false c.advance.new.self c.requires.running
    c.advance.ensures.advances (sym (ap is_finished c.requires.want)) k in
    said_advanced shows is c.advance.new.self c.close_or_take.new.self c.close_or_take.result
    c.advance.ensures.advances.ends
    (c.close_or_take.ensures.says answer on spent
    (some_open_on i.outlet.served c.advance.new.self.served c.advance.ensures.advances.opens
    opens_on))

pub returns-in-None-clause-takes : goal.returns-in-None-clause-takes
returns-in-None-clause-takes g c =
    λ answer k.
    let shows = g.M.Machine.shows in
    let is = c.self.view_is in
    let i = c.self.inside in
    let m = shows i.machine in
    let now = opened shows is answer c.requires.running k in
    let spent = c.in-None.ensures.none refl m.wanted now.made
    (inside shows is (λ m j o. false ≡ is_finished m.wanted)
    (sym (ap is_finished c.requires.want))) (outlet_of answer m i.inlet i.outlet now)
    (inside shows is (λ m j o. SomeOpen o.served) c.requires.opens) in
    let turn = c.advance.ensures.in_turn
    (subst (λ (x : Option Item). IsNone x) (sym spent.0) refl) in
    let new = c.close_or_take.new.self in
    outside shows is (λ x j o. TakesInTurn x j o new.inlet new.outlet)
    (⊎_elim inl (λ took. inr (
      c.args.input,
      wants shows is c.args.input c.requires.want,
      turn.0,
      turn.1,
      took.0,
      took.1,
    )) c.close_or_take.ensures.takes)
