use Rattle.std.proofs.Common.{◌≡◌, ◌-◌, take, drop, length}
use Rattle.lanes.proofs.lemmas.GatherLaws.{HasGathered}
use Rattle.lanes.proofs.gather.gather.Given as goal

abbrev pub invariant-runs : goal.invariant-runs
invariant-runs l = (length l.few ≡ length l.fn.few)
    × HasGathered (take 64 (drop l.at l.bytes)) l.few l.gone l.left l.from l.to

abbrev pub decreases-runs : goal.decreases-runs
decreases-runs l = 64 - l.from
