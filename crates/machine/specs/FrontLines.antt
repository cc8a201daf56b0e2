-- The first lines of a stream.
use Rattle.std.specs.Prelude.{◌≡◌, ℕ, ◌<◌, ◌≤◌, List, ◌++◌, length, take}
use Rattle.std.specs.List.{concat}
use Rattle.machine.specs.Lines.{lines}

-- the first n lines
abbrev pub first_lines : ℕ → List ℕ → List ℕ
first_lines n stream = concat (take n (lines stream))

-- The first n lines go up to `end` in these bytes, and this many of them end or begin in what
-- follows: whatever follows.
pub record FrontLines (bytes : List ℕ) (n end left : ℕ) : Type 0 where
  pub within : end ≤ length bytes
  pub splits : (zs : List ℕ) → first_lines n (bytes ++ zs) ≡ take end bytes ++ first_lines left zs
  pub all : 0 < left → end ≡ length bytes
