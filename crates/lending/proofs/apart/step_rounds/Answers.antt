use Rattle.std.proofs.Common.{◌∙◌, refl, rules}
use Rattle.lending.proofs.StepLaws.{steps_refl, steps_trans}
use Rattle.lending.proofs.apart.step_rounds.Goals as goal

pub loop-round-init : goal.loop-round-init
loop-round-init g c = record {
  sound = refl;
  steps =
      steps_refl g.M.Machine.shows (g.F.Files.shows c.args.files.now) c.args.nodes.now;
}

pub step_round-requires : goal.step_round-requires
step_round-requires g c =
    let s = c.loop-round.invariant.steps in
    record { opened = s.opened c.requires.opened }

pub loop-round-preserved : goal.loop-round-preserved
loop-round-preserved g c = record {
  steps = steps_trans g.M.Machine.shows (g.F.Files.shows c.args.files.now)
      (g.F.Files.shows c.loop-round.files)
      (g.F.Files.shows c.step_round.new.files) c.args.nodes.now c.loop-round.nodes
      c.step_round.new.nodes c.loop-round.invariant.steps c.step_round.ensures.steps;
  sound = c.step_round.ensures.sound (search rules) ∙ c.loop-round.invariant.sound;
}

pub returns-in_default-clause-steps : goal.returns-in_default-clause-steps
returns-in_default-clause-steps g c = steps_trans g.M.Machine.shows
    (g.F.Files.shows c.args.files.now) (g.F.Files.shows c.loop-round.files)
    (g.F.Files.shows c.step_round.new.files) c.args.nodes.now c.loop-round.nodes
    c.step_round.new.nodes c.loop-round.invariant.steps c.step_round.ensures.steps

pub returns-then-is_quiet-clause-steps : goal.returns-then-is_quiet-clause-steps
returns-then-is_quiet-clause-steps g c = steps_trans g.M.Machine.shows
    (g.F.Files.shows c.args.files.now) (g.F.Files.shows c.loop-round.files)
    (g.F.Files.shows c.step_round.new.files) c.args.nodes.now c.loop-round.nodes
    c.step_round.new.nodes c.loop-round.invariant.steps c.step_round.ensures.steps
