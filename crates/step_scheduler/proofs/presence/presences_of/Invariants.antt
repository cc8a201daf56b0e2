use Rattle.std.proofs.Common.{◌≡◌, take}
use Rattle.step_scheduler.specs.inner.Nodes.{presences_of}
use Rattle.step_scheduler.proofs.presence.presences_of.Given as goal

abbrev pub invariant-loop-pipe : goal.invariant-loop-pipe
invariant-loop-pipe l = l.presences.items ≡ presences_of l.plan l.opened
    (take l.pipe-index l.inputs)
