-- The limits of a run with a number of pipes.
use Rattle.std.specs.Prelude.{◌≡◌, ℕ, ◌+◌, ◌-◌, ◌*◌, ◌≤◌}
use Rattle.run_types.specs.declared.settings.Settings.{Settings}

-- If each of these pipes has as many pieces as it holds at first, seven are next to it, and all of
-- them have `block` bytes, then they have together at most 16 MiB more than pieces that are as long
-- as a first read.
abbrev pub FitIn : (pipes : ℕ) (settings : Settings) (block : ℕ) → Type 0
FitIn pipes settings block =
    pipes * (settings.capacity + 7) * (block - settings.first_read) ≤ 16777216

-- The settings of a run with this many pipes are these, but its pieces may be shorter: they are as
-- long as they can be and still fit in.
pub record FitsPipes (pipes : ℕ) (settings fitted : Settings) : Type 0 where
  pub workers : fitted.workers ≡ settings.workers
  pub fits_workers : fitted.fits_workers ≡ settings.fits_workers
  pub capacity : fitted.capacity ≡ settings.capacity
  pub max_capacity : fitted.max_capacity ≡ settings.max_capacity
  pub bytes : fitted.bytes ≡ settings.bytes
  pub first_read : fitted.first_read ≡ settings.first_read
  pub turns : fitted.turns ≡ settings.turns
  pub block : fitted.block ≤ settings.block
  pub few : FitIn pipes settings fitted.block
  pub most : (longer : ℕ) → longer ≤ settings.block → FitIn pipes settings longer
      → longer ≤ fitted.block
