-- Stretches of bytes.
use Rattle.std.specs.Prelude.{ℕ, ◌+◌, List, [], ◌∷◌, ◌++◌, take, drop}
use Rattle.line_filters.specs.declared.stretches.Stretch.{Stretch}

-- the bytes of the stretches
abbrev pub kept_of : List Stretch → List ℕ → List ℕ
kept_of [] xs = []
kept_of (s ∷ ss) xs = take s.len (drop s.skip xs) ++ kept_of ss (drop (s.skip + s.len) xs)

-- how many bytes there are up to the end of the last one
abbrev pub reach_of : List Stretch → ℕ
reach_of [] = 0
reach_of (s ∷ ss) = s.skip + s.len + reach_of ss
