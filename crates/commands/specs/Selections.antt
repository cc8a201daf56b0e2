-- The numbers that cut's list selects (POSIX.1-2017 XCU cut, OPTIONS).
use Rattle.std.specs.Prelude.{ℕ, List, Bool, true, ◌&&◌, Option, Some, None, nat_le, map, filter}
use Rattle.std.specs.List.{list_any, enumerate_from}
use Rattle.commands.specs.declared.range.Range.{Range}

-- whether a number is at most the last one, if there is a last one
abbrev pub is_up_to : Option ℕ → ℕ → Bool
is_up_to None n = true
is_up_to (Some last) n = nat_le n last

-- whether a number is in a range
abbrev pub is_in : Range → ℕ → Bool
is_in range n = nat_le range.first n && is_up_to range.last n

-- whether a number is selected: it is in one of the ranges
abbrev pub is_selected : List Range → ℕ → Bool
is_selected ranges n = list_any (λ r. is_in r n) ranges

-- the members whose numbers are selected, each once and in their order, if the first one's number
-- is n
abbrev pub selected_from : {X : Type 0} → (ℕ → Bool) → ℕ → List X → List X
selected_from selects n xs = map (λ p. p.1) (filter (λ p. selects p.0) (enumerate_from n xs))

-- the same, if the first one's number is 1
abbrev pub selected : {X : Type 0} → (ℕ → Bool) → List X → List X
selected selects xs = selected_from selects 1 xs
