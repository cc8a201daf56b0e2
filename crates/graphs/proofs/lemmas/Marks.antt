-- The marks of the nodes that were taken.
use Rattle.std.proofs.Common.{◌≡◌, ℕ, ◌<◌, Bool, false, not, List, length, get_or}
use Rattle.std.specs.List.{count_by}
use Rattle.graphs.specs.inner.StripSteps.{is_taken}

-- the nodes with a mark are those that were taken
abbrev pub AreMarks : List ℕ → List Bool → Type 0
AreMarks taken marks = (t : ℕ) → t < length marks → get_or marks t false ≡ is_taken taken t

-- how many have no mark
abbrev pub unmarked : List Bool → ℕ
unmarked marks = count_by not marks
