use Rattle.std.proofs.Common.{◌∙◌, refl, arith, rules}
use Rattle.lending.proofs.StepLaws.{steps_refl, steps_trans}
use Rattle.lending.proofs.apart.step_on.Goals as goal

pub loop-again-init : goal.loop-again-init
loop-again-init g c = record {
  sound = refl;
  steps =
      steps_refl g.M.Machine.shows (g.F.Files.shows c.args.files.now) c.args.nodes.now;
}

pub step_ready-step-requires : goal.step_ready-step-requires
step_ready-step-requires g c =
    let s = c.loop-again.invariant.steps in
    record {
      within = omega (arith, c.requires.within, c.loop-again.auto.nodes);
      opened =
          s.opened c.requires.opened;
    }

pub loop-again-preserved : goal.loop-again-preserved
loop-again-preserved g c = record {
  steps = steps_trans g.M.Machine.shows (g.F.Files.shows c.args.files.now)
      (g.F.Files.shows c.loop-again.files)
      (g.F.Files.shows c.step_ready-step.new.files) c.args.nodes.now c.loop-again.nodes
      c.step_ready-step.new.nodes c.loop-again.invariant.steps c.step_ready-step.ensures.steps;
  sound = c.step_ready-step.ensures.sound (search rules) ∙ c.loop-again.invariant.sound;
}

pub returns-then-is_failed-clause-steps : goal.returns-then-is_failed-clause-steps
returns-then-is_failed-clause-steps g c =
    steps_trans g.M.Machine.shows (g.F.Files.shows c.args.files.now)
    (g.F.Files.shows c.loop-again.files) (g.F.Files.shows c.step_ready-step.new.files)
    c.args.nodes.now c.loop-again.nodes c.step_ready-step.new.nodes c.loop-again.invariant.steps
    c.step_ready-step.ensures.steps

pub returns-then-not-matches-clause-steps : goal.returns-then-not-matches-clause-steps
returns-then-not-matches-clause-steps g c =
    steps_trans g.M.Machine.shows (g.F.Files.shows c.args.files.now)
    (g.F.Files.shows c.loop-again.files) (g.F.Files.shows c.step_ready-step.new.files)
    c.args.nodes.now c.loop-again.nodes c.step_ready-step.new.nodes c.loop-again.invariant.steps
    c.step_ready-step.ensures.steps
