use Rattle.std.proofs.Common.{arith}
use Rattle.std.proofs.lemmas.Grind.{common_steps}
use Rattle.std.proofs.lemmas.List.{map-append}
use Rattle.lending.proofs.GoingOn.{groups_more}
use Rattle.workers.proofs.threads.join_all.Goals as goal

pub loop-worker-preserved : goal.loop-worker-preserved
loop-worker-preserved g c = (
  rw (map-append, c.push_reserved.ensures.items)
      (groups_more g.M.Machine.shows _ _ _ _ c.loop-worker.invariant.0 c.joined_group.ensures),
  grind (arith, common_steps),
  grind (arith, common_steps),
)
