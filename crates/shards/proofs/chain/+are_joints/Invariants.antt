use Rattle.std.proofs.Common.{length}
use Rattle.shards.proofs.chain.+are_joints.Given as goal

abbrev pub decreases-are_joints : goal.decreases-are_joints
decreases-are_joints l = length l.pipes.now
