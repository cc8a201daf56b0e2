use Rattle.std.proofs.Common.{◌≡◌, ℕ, ◌+◌, List, length, take, ◌∙◌, refl, sym, subst, arith}
use Rattle.std.proofs.Common.{length-set, length-take-le}
use Rattle.std.proofs.lemmas.List.{take_more_set}
use Rattle.run_types.specs.declared.step.Step.{Step}
use Rattle.network_laws.specs.Steps.{IsStep, StepIs}
use Rattle.networks.specs.Turns.{AreSteps}
use Rattle.networks.specs.Networks.{network_state}
use Rattle.networks.proofs.lemmas.RoundLaws.{steps_more}
use Rattle.network_nodes.specs.inner.Actors.{actor_at}
use Rattle.networks.proofs.Kept.{keeps_refl, keeps_trans}
use Rattle.networks.proofs.Touched.{own_touches}
use Rattle.networks.proofs.lemmas.CountLaws.{step_reaches, step_sound}
use Rattle.networks.proofs.network.Network.step_each.Goals as goal

pub loop-node-init : goal.loop-node-init
loop-node-init g c = record {
  opened = c.requires.opened;
  keeps = keeps_refl g.M.Machine.shows c.args.self.now (g.F.Files.shows c.args.files.now);
  count = c.requires.room;
  reaches = λ before h. h;
  sound = λ none. refl;
  round = λ s right. (refl, refl);
}

pub loop-node-preserved : goal.loop-node-preserved
loop-node-preserved g c = record {
  opened = c.step.ensures.opened;
  count = length-set c.loop-node.answers c.loop-node.node c.step.result
      ∙ (c.loop-node.invariant.count ∙ sym (let e = c.step.ensures.same in e.count));
  keeps = keeps_trans g.M.Machine.shows c.args.self.now c.loop-node.self c.step.new.self
      (g.F.Files.shows c.args.files.now) (g.F.Files.shows c.loop-node.files)
      (g.F.Files.shows c.step.new.files)
      c.loop-node.invariant.keeps
      record {
        same = c.step.ensures.same;
        right = c.step.ensures.right;
        touches = own_touches c.loop-node.self.nodes c.loop-node.node
            (actor_at c.loop-node.self.nodes c.loop-node.node) (g.F.Files.shows c.loop-node.files)
            (g.F.Files.shows c.step.new.files) refl c.step.ensures.own;
      };
  reaches = λ before h. step_reaches g.M.Machine.shows c.loop-node.node c.loop-node.self
      c.step.new.self (g.F.Files.shows c.loop-node.files) (g.F.Files.shows c.step.new.files)
      (let does = c.step.ensures.step in does.step_is) before
      (c.loop-node.invariant.reaches before h);
  sound = λ none.
      let same = c.step.ensures.same in
      let s = step_sound g.M.Machine.shows c.loop-node.node c.loop-node.self c.step.new.self
      (g.F.Files.shows c.loop-node.files) (g.F.Files.shows c.step.new.files) same.count
      (omega (
        arith,
        c.loop-node-test.true,
        c.loop-node.auto.answers,
        c.loop-node.invariant.count,
      )) (let does = c.step.ensures.step in does.step_is) none in
      s.1 ∙ c.loop-node.invariant.sound s.0;
  round = λ s right.
      let before = c.loop-node.invariant.keeps in
      let r = before.right s right in
      let h = c.loop-node.invariant.round s right in
      let does = c.step.ensures.step in
      let shows = g.M.Machine.shows in
      let f0 = g.F.Files.shows c.args.files.now in
      let f1 = g.F.Files.shows c.loop-node.files in
      let f2 = g.F.Files.shows c.step.new.files in
      let xs = take c.loop-node.node c.loop-node.answers in
      let a = network_state shows c.args.self.now f0 in
      let b = network_state shows c.loop-node.self f1 in
      let d = network_state shows c.step.new.self f2 in
      let here : c.loop-node.node ≡ 0 + length xs = let e =
      length-take-le c.loop-node.node c.loop-node.answers
      (omega (arith, c.loop-node-test.true, c.loop-node.auto.answers)) in
      omega (arith, e) in
      let step = subst (λ (i : ℕ). IsStep s.graph i b d f1.failures f2.failures) here
      (does.step_is s.graph r.graph) in
      let says = subst (λ (i : ℕ). StepIs s b d i c.step.result) here (does.says s r) in
      subst (λ (ys : List Step). AreSteps s 0 a d f0.failures f2.failures ys)
      (sym (take_more_set c.loop-node.answers c.loop-node.node c.step.result
      (omega (arith, c.loop-node-test.true, c.loop-node.auto.answers))))
      (steps_more s 0 a b d f0.failures f1.failures f2.failures xs c.step.result h step says);
}
