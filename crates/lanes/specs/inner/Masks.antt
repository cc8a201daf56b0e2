-- Masks of bits.
use Rattle.std.specs.Prelude.{◌≡◌, ◌≢◌, ℕ, ◌<◌}
use Rattle.std.specs.Int.{bit_at}

-- one mask is the other without its lowest bit
pub record IsWithoutLowest (mask less : ℕ) : Type 0 where
  pub lowest : ℕ
  pub bound : lowest < 64
  pub set : bit_at mask lowest ≡ 1
  pub below : (k : ℕ) → k < lowest → bit_at mask k ≡ 0
  pub kept : (k : ℕ) → k < 64 → k ≢ lowest → bit_at less k ≡ bit_at mask k
  pub gone : bit_at less lowest ≡ 0
