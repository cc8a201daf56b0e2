use Rattle.std.proofs.Common.{◌≡◌, ℕ, ◌+◌, List, take, get_or, ap, ◌∙◌, refl, sym, subst, subst₂}
use Rattle.std.proofs.Common.{length, arith}
use Rattle.std.proofs.lemmas.List.{take_all, take_more}
use Rattle.run_types.specs.Steps.{is_moved}
use Rattle.networks.specs.Networks.{network_state}
use Rattle.networks.specs.Turns.{RunsSchedule}
use Rattle.networks.proofs.Progress.{bit_of}
use Rattle.network_nodes.specs.inner.Actors.{actor_at}
use Rattle.networks.proofs.Kept.{keeps_refl, keeps_trans}
use Rattle.networks.proofs.Touched.{own_touches}
use Rattle.networks.proofs.DecisionLaws.{step_events, bit_most, byte_bit}
use Rattle.networks.proofs.ScheduleLaws.{schedule_none, schedule_more}
use Rattle.networks.proofs.lemmas.TraceLaws.{below_at, steps_one_more}
use Rattle.networks.specs.inner.Traces.{StepsAll}
use Rattle.networks.proofs.network.Network.step_all.Goals as goal

pub loop-node-init : goal.loop-node-init
loop-node-init g c = record {
  opened = c.requires.opened;
  keeps = keeps_refl g.M.Machine.shows c.args.self.now (g.F.Files.shows c.args.files.now);
  ran = schedule_none g.M.Machine.shows c.args.self.now (g.F.Files.shows c.args.files.now);
  steps = (refl, refl);
  most = omega arith;
  events = λ s right. omega arith;
}

pub loop-node-preserved : goal.loop-node-preserved
loop-node-preserved g c =
    let shows = g.M.Machine.shows in
    let F = g.F.Files in
    let inv = c.loop-node.invariant in
    let before = inv.keeps in
    let does = c.step.ensures.step in
    let one : c.from-moved.result ≡ bit_of (is_moved c.step.result) = c.from-moved.ensures
    ∙ (byte_bit c.has_moved.result ∙ ap bit_of c.has_moved.ensures) in
    record {
      opened = c.step.ensures.opened;
      keeps = keeps_trans shows c.args.self.now c.loop-node.self c.step.new.self
          (F.shows c.args.files.now) (F.shows c.loop-node.files) (F.shows c.step.new.files)
          inv.keeps
          record {
            same = c.step.ensures.same;
            right = c.step.ensures.right;
            touches = own_touches c.loop-node.self.nodes
                (get_or c.args.nodes.now c.loop-node.node-index 0)
                (actor_at c.loop-node.self.nodes (get_or c.args.nodes.now c.loop-node.node-index 0))
                (F.shows c.loop-node.files) (F.shows c.step.new.files) refl c.step.ensures.own;
          };
      ran = subst₂ (λ (ks : List ℕ) (count : ℕ). RunsSchedule shows ks c.args.self.now
          (F.shows c.args.files.now) c.step.new.self (F.shows c.step.new.files) count)
          (sym (take_more c.args.nodes.now c.loop-node.node-index 0 c.loop-node-test.true))
          (ap (λ (i : ℕ). c.loop-node.moved + i) (sym one))
          (schedule_more shows (take c.loop-node.node-index c.args.nodes.now)
          (get_or c.args.nodes.now c.loop-node.node-index 0) c.args.self.now c.loop-node.self
          c.step.new.self
          (F.shows c.args.files.now) (F.shows c.loop-node.files)
          (F.shows c.step.new.files) c.loop-node.moved c.step.result inv.ran before.right
          does.step_is does.says);
      steps = subst (λ (ks : List ℕ). StepsAll shows ks c.args.self.now
          (F.shows c.args.files.now) c.step.new.self (F.shows c.step.new.files))
          (sym (take_more c.args.nodes.now c.loop-node.node-index 0 c.loop-node-test.true))
          (steps_one_more shows (take c.loop-node.node-index c.args.nodes.now)
          (get_or c.args.nodes.now c.loop-node.node-index 0) c.args.self.now c.loop-node.self
          c.step.new.self (F.shows c.args.files.now) (F.shows c.loop-node.files)
          (F.shows c.step.new.files) inv.steps
          record {
            step = c.step.result;
            within = (let same = before.same in
                let lt = below_at (length c.args.self.now.nodes) c.args.nodes.now c.requires.nodes
                c.loop-node.node-index 0 c.loop-node-test.true in
                omega (arith, lt, same.count));
            step_is = does.step_is;
            says = does.says;
            same = c.step.ensures.same;
            right = c.step.ensures.right;
          });
      most = let m = bit_most (is_moved c.step.result) in omega (arith, inv.most, one, m);
      events = λ s right.
          let r = before.right s right in
          let a = network_state shows c.loop-node.self (F.shows c.loop-node.files) in
          let b = network_state shows c.step.new.self (F.shows c.step.new.files) in
          let more = step_events s _ a b _ _ c.step.result (does.step_is s.graph r.graph)
          (does.says s r) in
          let fewer = inv.events s right in
          omega (arith, fewer, more, one);
    }

pub returns-clause-ran : goal.returns-clause-ran
returns-clause-ran g c =
    subst (λ (ks : List ℕ). RunsSchedule g.M.Machine.shows ks c.args.self.now
    (g.F.Files.shows c.args.files.now) c.loop-node.self
    (g.F.Files.shows c.loop-node.files) c.loop-node.moved)
    (take_all c.loop-node.node-index c.args.nodes.now c.loop-node-test.false)
    c.loop-node.invariant.ran

pub returns-clause-moved : goal.returns-clause-moved
returns-clause-moved g c =
    record {
      most = omega (
        arith,
        c.loop-node.invariant.most,
        c.loop-node-test.false,
        c.loop-node.auto.node-index-end,
      );
      events_are = c.loop-node.invariant.events;
    }

pub returns-clause-steps : goal.returns-clause-steps
returns-clause-steps g c =
    subst (λ (ks : List ℕ). StepsAll g.M.Machine.shows ks c.args.self.now
    (g.F.Files.shows c.args.files.now) c.loop-node.self (g.F.Files.shows c.loop-node.files))
    (take_all c.loop-node.node-index c.args.nodes.now c.loop-node-test.false)
    c.loop-node.invariant.steps
