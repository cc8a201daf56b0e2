use Rattle.std.proofs.Common.{◌≡◌, map}
use Rattle.std.specs.List.{range_with_len}
use Rattle.planner.specs.inner.Groups.{group_of}
use Rattle.planner.proofs.plan.Plan.groups.Given as goal

abbrev pub invariant-loop-group : goal.invariant-loop-group
invariant-loop-group l = map (λ v. v.items) l.groups.items
    ≡ map (group_of l.nodes l.count) (range_with_len 0 l.group)
