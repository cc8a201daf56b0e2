-- Planned orders go by what is joined.
use Rattle.std.proofs.Common.{ℕ, List, take, get_or}
use Rattle.graphs.specs.Orders.{IsReady, IsPlannedOrder, HasNoOrder, SameJoins, PlannedByJoins}

-- what is ready by one list is ready by the other
ready_by_joins : (n : ℕ) (pipes other : List (ℕ × ℕ)) → SameJoins pipes other
    → (in_place : List ℕ) (t : ℕ) → IsReady n pipes in_place t → IsReady n other in_place t
ready_by_joins n pipes other same in_place t r =
    record { within = r.within; out = r.out; fed = λ s j. r.fed s ((same s t).1 j) }

-- what is planned by one list is planned by the other
pub planned_by_joins : (n : ℕ) (pipes other : List (ℕ × ℕ)) → SameJoins pipes other
    → (order : List ℕ) → IsPlannedOrder n pipes order → IsPlannedOrder n other order
planned_by_joins n pipes other same order is = record {
  each = λ p l.
      let x = is.each p l in
      record {
        ready = ready_by_joins n pipes other same (take p order) (get_or order p 0) x.ready;
        lowest = λ t h r. x.lowest t h
            (ready_by_joins n other pipes (λ s u. ((same s u).1, (same s u).0)) (take p order) t r);
      };
  all = is.all;
}

-- if one list has no order, the other has none
pub unordered_by_joins : (pipes other : List (ℕ × ℕ)) → SameJoins pipes other → HasNoOrder pipes
    → HasNoOrder other
unordered_by_joins pipes other same none place ordered =
    none place (λ s t j. ordered s t ((same s t).0 j))

pub planned_goes_by_joins : PlannedByJoins
planned_goes_by_joins n pipes other same =
    (planned_by_joins n pipes other same, unordered_by_joins pipes other same)
