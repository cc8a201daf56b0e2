use Rattle.step_scheduler.proofs.lemmas.Informed.{presences_more}
use Rattle.step_scheduler.proofs.presence.presences_of.Goals as goal

pub loop-pipe-preserved : goal.loop-pipe-preserved
loop-pipe-preserved c =
    presences_more c.args.plan.now c.args.opened.now c.args.inputs.now c.loop-pipe.pipe-index
    c.loop-pipe.presences.items c.push.new.self.items c.presence.result c.loop-pipe-test.true
    c.loop-pipe.invariant c.presence.ensures c.in_ok-push.ensures.items
