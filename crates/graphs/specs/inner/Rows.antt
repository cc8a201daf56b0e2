-- Tables: for each number, a row of numbers. They keep, for each command of a pipeline, those that
-- its pipes join it to (POSIX.1-2017 XCU 2.9.2).
use Rattle.std.specs.Prelude.{ℕ, ◌==◌, List, [], map, filter, slice_index_or}
use Rattle.std.specs.Global.{Vec}

-- the row with this number in a table
abbrev pub links_at : List (Vec ℕ) → ℕ → List ℕ
links_at links t = slice_index_or (map (λ v. v.items) links) t []

-- the second of each pair whose first is k
abbrev pub row : List (ℕ × ℕ) → ℕ → List ℕ
row ends k = map (λ e. e.1) (filter (λ e. e.0 == k) ends)

-- the pairs the other way round
abbrev pub flipped : List (ℕ × ℕ) → List (ℕ × ℕ)
flipped ends = map (λ e. (e.1, e.0)) ends
