use Rattle.std.proofs.Common.{◌∙◌, refl, arith, rules}
use Rattle.lending.proofs.StepLaws.{steps_refl, steps_trans}
use Rattle.lending.proofs.apart.step_round.Goals as goal

pub loop-node-init : goal.loop-node-init
loop-node-init g c = record {
  sound = refl;
  steps =
      steps_refl g.M.Machine.shows (g.F.Files.shows c.args.files.now) c.args.nodes.now;
}

pub step_on-requires : goal.step_on-requires
step_on-requires g c =
    let s = c.loop-node.invariant.steps in
    record {
      within = omega (arith, c.loop-node-test.true, c.loop-node.auto.nodes);
      opened =
          s.opened c.requires.opened;
    }

pub loop-node-preserved : goal.loop-node-preserved
loop-node-preserved g c = record {
  steps = steps_trans g.M.Machine.shows (g.F.Files.shows c.args.files.now)
      (g.F.Files.shows c.loop-node.files)
      (g.F.Files.shows c.step_on.new.files) c.args.nodes.now c.loop-node.nodes
      c.step_on.new.nodes c.loop-node.invariant.steps c.step_on.ensures.steps;
  sound = c.step_on.ensures.sound (search rules) ∙ c.loop-node.invariant.sound;
}

pub returns-in_err-round-clause-steps : goal.returns-in_err-round-clause-steps
returns-in_err-round-clause-steps g c =
    steps_trans g.M.Machine.shows (g.F.Files.shows c.args.files.now)
    (g.F.Files.shows c.loop-node.files) (g.F.Files.shows c.step_on.new.files)
    c.args.nodes.now c.loop-node.nodes c.step_on.new.nodes c.loop-node.invariant.steps
    c.step_on.ensures.steps
