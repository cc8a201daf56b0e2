-- Places in bytes.
use Rattle.std.specs.Prelude.{◌≡◌, ℕ, ◌+◌, ◌-◌, ◌<◌, ◌≤◌, List, ◌∷◌, ◌++◌, false, ◌==◌, length}
use Rattle.std.specs.Prelude.{take, drop}
use Rattle.std.specs.List.{All}

-- the first such byte from `at` on is at `k`
pub record FirstFrom (bytes : List ℕ) (byte at k : ℕ) : Type 0 where
  pub after : at ≤ k
  pub within : k < length bytes
  pub none_before : All (λ x. (x == byte) ≡ false) (take (k - at) (drop at bytes))
  pub here : drop at bytes ≡ take (k - at) (drop at bytes) ++ byte ∷ drop (k + 1) bytes
