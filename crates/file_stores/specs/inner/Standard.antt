-- The first lines of the standard input. No more of it is taken.
use Rattle.std.specs.Prelude.{◌≡◌, ℕ, ◌<◌, ◌⊎◌, List, ◌++◌, take, drop, length, min}
use Rattle.machine.specs.FrontLines.{FrontLines}

-- As much of the first lines of these bytes was copied as there is room for, and this many lines end
-- or begin in what follows.
pub record CopiesLines (ahead : List ℕ) (n : ℕ) (old new : List ℕ) (count left : ℕ) : Type 0 where
  pub lines : FrontLines (take (min (length ahead) (length old)) ahead) n count left
  pub copied : new ≡ take count ahead ++ drop count old

-- After a read into this much room that gave this many bytes, as many lines are left as were before
-- the end, or none at the end.
pub record LeavesLines (room count left last : ℕ) : Type 0 where
  pub end : count ≡ 0 → 0 < room → last ≡ 0
  pub more : (last ≡ left) ⊎ ((count ≡ 0) × (0 < room) × (last ≡ 0))
