-- The stages of a plan in groups, one for each worker that runs them. A stage keeps the group that
-- its number gives it, so each worker gets as many stages as another, or one more.
use Rattle.std.specs.Prelude.{ℕ, ◌-◌, ◌%◌, ◌==◌, min, Bool, true, false, List, map, length, Option}
use Rattle.std.specs.Prelude.{Some, slice_get}
use Rattle.std.specs.List.{filter, count_by, range_with_len}
use Rattle.planner.specs.declared.plan.Node.{Node}
use Rattle.planner.specs.declared.plan.Node.TheVariants as node
use Rattle.planner.specs.Planned.{Planned}

-- whether a node is a stage
abbrev pub is_stage : Node → Bool
is_stage (node.Stage number filter inputs branches) = true
is_stage _ = false

-- whether this is a stage of the group g, of this many groups
abbrev pub is_of_group : ℕ → ℕ → Option Node → Bool
is_of_group count g (Some (node.Stage number filter inputs branches)) = ((number - 1) % count) == g
is_of_group count g _ = false

-- the group g of this many, by the numbers of its nodes
abbrev pub group_of : List Node → ℕ → ℕ → List ℕ
group_of nodes count g =
    filter (λ k. is_of_group count g (slice_get nodes k)) (range_with_len 0 (length nodes))

-- how many groups there are: no more than workers, and none that is empty for want of stages
abbrev pub group_count : Planned → ℕ → ℕ
group_count p workers = min workers (count_by is_stage p.nodes)

-- the groups
abbrev pub groups_of : Planned → ℕ → List (List ℕ)
groups_of p workers =
    let count = group_count p workers in map (group_of p.nodes count) (range_with_len 0 count)
