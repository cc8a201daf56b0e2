-- Bytes that are taken line by line.
use Rattle.std.specs.Prelude.{◌≡◌, ℕ, ◌≤◌, List, ◌++◌, length, drop}
use Rattle.std.specs.List.{flat_map}
use Rattle.machine.specs.Lines.{lines, led}

-- Of the bytes before `at` was made what is made of their lines, whatever follows. `partial` came
-- before the bytes, and `partial'` comes before those from `at` on.
pub record Walked (of_line : List ℕ
    → List ℕ) (partial partial' bytes : List ℕ) (at : ℕ) (made made' : List ℕ) : Type 0 where
  pub within : at ≤ length bytes
  pub splits : (zs : List ℕ)
      → made ++ flat_map of_line (led partial (lines (bytes ++ zs)))
      ≡ made' ++ flat_map of_line (led partial' (lines (drop at bytes ++ zs)))
