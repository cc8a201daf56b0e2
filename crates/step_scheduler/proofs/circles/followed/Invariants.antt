use Rattle.std.proofs.Common.{◌≡◌, length, take}
use Rattle.planner.specs.Planned.{graph_of}
use Rattle.step_scheduler.specs.inner.Follows.{Follows}
use Rattle.step_scheduler.proofs.circles.followed.Given as goal

abbrev pub invariant-loop-wait : goal.invariant-loop-wait
invariant-loop-wait l = record {
  count : length l.next.items ≡ length l.plan.nodes;
  follows : Follows (graph_of l.plan) (take l.wait-index l.waits) l.next.items;
}
