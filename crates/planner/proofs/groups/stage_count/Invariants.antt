use Rattle.std.proofs.Common.{◌≡◌, ◌≤◌, take}
use Rattle.std.specs.List.{count_by}
use Rattle.planner.specs.inner.Groups.{is_stage}
use Rattle.planner.proofs.groups.stage_count.Given as goal

abbrev pub invariant-loop-node : goal.invariant-loop-node
invariant-loop-node l = record {
  within : l.count ≤ l.node-index;
  counted : l.count
      ≡ count_by is_stage (take l.node-index l.nodes);
}
