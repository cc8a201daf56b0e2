-- Runs: adjacent lines with equal keys, as many as there are (POSIX.1-2017 XCU uniq, DESCRIPTION).
-- A line is written here by its content.
use Rattle.std.specs.Prelude.{◌≡◌, ◌≢◌, ℕ, List, [], ◌∷◌, length, if◌then◌else◌}
use Rattle.std.specs.List.{All, flat_map}
use Rattle.std.specs.Str.{bytes_eq}

-- lines one after another; there is at least one
pub record Run : Type 0 where
  pub first : List ℕ
  pub others : List (List ℕ)

-- its lines
abbrev pub lines_of : Run → List (List ℕ)
lines_of r = r.first ∷ r.others

-- how many there are
abbrev pub run_length : Run → ℕ
run_length r = length (lines_of r)

-- all its lines have the key of the first one
abbrev pub IsAlike : (List ℕ → List ℕ) → Run → Type 0
IsAlike key r = All (λ (line : List ℕ). key line ≡ key r.first) r.others

-- no two adjacent runs have the same key
abbrev pub AreApart : (List ℕ → List ℕ) → List Run → Type 0
AreApart key [] = Unit {0}
AreApart key (r ∷ []) = Unit {0}
AreApart key (r ∷ s ∷ rs) = (key r.first ≢ key s.first) × AreApart key (s ∷ rs)

-- The maximal runs of lines with equal keys: joined they are the lines, the keys within each are
-- equal, and those of neighbours are not.
pub record AreRunsOf (key : List ℕ → List ℕ) (ls : List (List ℕ)) (rs : List Run) : Type 0 where
  pub joined : flat_map lines_of rs ≡ ls
  pub alike : All (IsAlike key) rs
  pub apart : AreApart key rs

-- the runs of a line and those after it: it belongs to the first of these if the keys are equal
abbrev pub onto_runs : (List ℕ → List ℕ) → List ℕ → List Run → List Run
onto_runs key line [] = record { first = line; others = [] } ∷ []
onto_runs key line (r ∷ rs) =
    if bytes_eq (key line) (key r.first)
    then record { first = line; others = lines_of r } ∷ rs
    else record { first = line; others = [] } ∷ r ∷ rs

-- the maximal runs
abbrev pub runs : (List ℕ → List ℕ) → List (List ℕ) → List Run
runs key [] = []
runs key (line ∷ ls) = onto_runs key line (runs key ls)
