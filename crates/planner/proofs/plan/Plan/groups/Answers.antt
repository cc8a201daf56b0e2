use Rattle.std.proofs.Common.{ℕ, List, [], ◌∷◌, ◌++◌, map, Vec, Global, ap, ap₂, sym, ◌∙◌, arith}
use Rattle.std.proofs.lemmas.List.{map_push}
use Rattle.std.proofs.lemmas.List.FromFn.{map-range_with_len_more}
use Rattle.planner.specs.inner.Groups.{group_of}
use Rattle.planner.proofs.plan.Plan.groups.Goals as goal

pub loop-group-preserved : goal.loop-group-preserved
loop-group-preserved c =
    let items : Vec ℕ Global → List ℕ = λ v. v.items in
    let n = c.loop-group.group in
    let more = map-range_with_len_more (group_of c.order-nodes.result.now c.min-count.result) 0 n n
    (omega arith) in
    ap (map items) c.in_ok-push.ensures.items
    ∙ (map_push items c.loop-group.groups.items c.in_ok-group_of.field-0
    ∙ (ap₂ (λ (xs : List (List ℕ)) (ys : List ℕ). xs ++ ys ∷ []) c.loop-group.invariant
    c.in_ok-group_of.ensures ∙ sym more))
