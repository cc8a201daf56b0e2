use Rattle.stages.specs.inner.Steps.{part}
use Rattle.networks.specs.Networks.{state_by}
use Rattle.networks.proofs.lemmas.WaitLaws.{stage_waits}
use Rattle.networks.proofs.awaiting.ready_wait.Goals as goal

pub returns-clause-full : goal.returns-clause-full
returns-clause-full g c = λ files answer p case running.
    let t = c.args.stage.now in
    stage_waits (state_by g.M.Machine.shows c.args.nodes.now c.args.pipes.now files)
    (part g.M.Machine.shows t) t.outlet.pipes c.stage_wait.result p
    (c.may_wait.ensures.0 c.if-not-may_wait.false)
    (c.stage_wait.ensures.full files answer case running)
