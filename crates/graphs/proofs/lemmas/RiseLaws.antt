-- If each pipe goes to a higher number, the numbers in rising order are the planned order.
use Rattle.std.proofs.Common.{◌≡◌, ℕ, ◌+◌, ◌<◌, ◌≤◌, true, List, length, get_or, take, ◌∙◌, arith}
use Rattle.std.specs.Prelude.{nat_lt}
use Rattle.std.specs.List.{Contains, list_all, range_with_len}
use Rattle.std.proofs.lemmas.Bool.{ltb-true}
use Rattle.std.proofs.lemmas.List.{get_or-take, length-take-le}
use Rattle.std.proofs.lemmas.List.FromFn.{length-range_with_len, get_or-range_with_len}
use Rattle.std.proofs.lemmas.List.Sums.{AllPass-from_list_all}
use Rattle.graphs.specs.Orders.{Joins, IsPlannedOrder}

-- the first p of n numbers are those below p
count_below : (n p : ℕ) → p ≤ n → length (take p (range_with_len 0 n)) ≡ p
count_below n p le = length-take-le p (range_with_len 0 n) (let e = length-range_with_len 0 n in
    omega arith)

at_below : (n p t d : ℕ) → p ≤ n → t < p → get_or (take p (range_with_len 0 n)) t d ≡ t
at_below n p t d le lt =
    let e = get_or-range_with_len 0 n t d (omega arith) in
    get_or-take p (range_with_len 0 n) t d lt ∙ (e ∙ (let z : 0 + t ≡ t = omega arith in z))

placed_below : (n p t : ℕ) → p ≤ n → t < p → Contains (take p (range_with_len 0 n)) t
placed_below n p t le lt = (t, omega (arith, count_below n p le), at_below n p t t le lt)

below_placed : (n p t : ℕ) → p ≤ n → Contains (take p (range_with_len 0 n)) t → t < p
below_placed n p t le (k, l, e) =
    let lt : k < p = omega (arith, count_below n p le) in
    let same = at_below n p k t le lt in
    omega arith

-- a pipe that joins s to t goes up
joined_up : (pipes : List (ℕ × ℕ)) → list_all (λ e. nat_lt e.0 e.1) pipes ≡ true → (s t : ℕ)
    → Joins pipes s t → s < t
joined_up pipes up s t (i, l, a, b) =
    let h = ltb-true _ _ (AllPass-from_list_all (λ (e : ℕ × ℕ). nat_lt e.0 e.1) pipes up i
    (0, 0) l) in
    omega arith

pub rising_is_planned : (n : ℕ) (pipes : List (ℕ × ℕ)) → list_all (λ e. nat_lt e.0 e.1) pipes ≡ true
    → IsPlannedOrder n pipes (range_with_len 0 n)
rising_is_planned n pipes up =
    let count = length-range_with_len 0 n in
    record {
      each = λ p l.
          let lt : p < n = omega arith in
          let is : get_or (range_with_len 0 n) p 0 ≡ p = get_or-range_with_len 0 n p 0 lt
          ∙ (let z : 0 + p ≡ p = omega arith in z) in
          record {
            ready = record {
              within = omega arith;
              out = λ c. let b = below_placed n p (get_or (range_with_len 0 n) p 0)
                  (omega arith) c in omega arith;
              fed = λ s j. let u = joined_up pipes up s (get_or (range_with_len 0 n) p 0) j in
                  placed_below n p s (omega arith) (omega arith);
            };
            lowest = λ t h r. r.out (placed_below n p t (omega arith) (omega arith));
          };
      all = λ t l. (
        t,
        omega arith,
        get_or-range_with_len 0 n t t l
            ∙ (let z : 0 + t ≡ t = omega arith in z),
      );
    }
