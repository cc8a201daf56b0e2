use Rattle.std.proofs.Common.{◌≡◌, ℕ, ◌+◌, set, ap, ◌∙◌, sym, subst, arith}
use Rattle.run_types.specs.Steps.{is_moved}
use Rattle.networks.proofs.Progress.{bit_of}
use Rattle.networks.proofs.DecisionLaws.{bit_most, byte_bit}
use Rattle.lending.proofs.lemmas.TurnLaws.{StepsFirst, none_stepped, one_stepped, all_stepped}
use Rattle.lending.proofs.group.step_all.Goals as goal

pub loop-k-init : goal.loop-k-init
loop-k-init g c = record {
  most = omega arith;
  steps =
      none_stepped g.M.Machine.shows c.args.stages.now;
}

pub loop-k-preserved : goal.loop-k-preserved
loop-k-preserved g c =
    let i = c.loop-k.invariant in
    let one : c.from-moved.result ≡ bit_of (is_moved c.step_one.result) = c.from-moved.ensures
    ∙ (byte_bit c.has_moved.result ∙ ap bit_of c.has_moved.ensures) in
    record {
      most = let m = bit_most (is_moved c.step_one.result) in omega (arith, i.most, one, m);
      steps = subst (λ (count : ℕ). StepsFirst g.M.Machine.shows (c.loop-k.k + 1) c.args.stages.now
          (set c.loop-k.stages c.loop-k.k c.step_one.new.stage) count)
          (ap (λ (j : ℕ). c.loop-k.moved + j) (sym one))
          (one_stepped g.M.Machine.shows c.loop-k.k c.args.stages.now c.loop-k.stages c.loop-k.moved
          c.index-stages-k.result c.step_one.new.stage c.step_one.result i.steps
          (omega (arith, c.loop-k-test.true, c.loop-k.auto.stages, c.loop-k.auto.k-end))
          c.step_one.ensures);
    }

pub returns : goal.returns
returns g c = all_stepped g.M.Machine.shows c.loop-k.k c.args.stages.now c.loop-k.stages
    c.loop-k.moved (omega (arith, c.loop-k-test.false, c.loop-k.auto.stages, c.loop-k.auto.k-end))
    c.loop-k.invariant.steps
