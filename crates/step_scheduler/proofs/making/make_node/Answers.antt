use Rattle.step_scheduler.specs.inner.Nodes.{presences_of}
use Rattle.step_scheduler.proofs.making.make_node.Goals as goal

pub returns-in-Stage : goal.returns-in-Stage
returns-in-Stage c = rw c.in-Stage.is (c.make_stage.ensures c.in-Stage.number c.args.file)

pub returns-in-Sink : goal.returns-in-Sink
returns-in-Sink c =
    rw c.in-Sink.is (c.make_sink.ensures (presences_of c.args.plan.now c.args.opened.now))
