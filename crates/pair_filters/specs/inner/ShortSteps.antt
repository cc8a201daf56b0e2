-- Lines that uniq takes from a place of a piece on.
use Rattle.std.specs.Prelude.{◌≡◌, ℕ, ◌+◌, ◌-◌, ◌≤◌, Bool, List, [], ◌++◌, take, drop, replicate}
use Rattle.std.specs.Str.{bytes_eq}
use Rattle.machine.specs.Lines.{newline}
use Rattle.machine.specs.inner.Places.{FirstFrom}
use Rattle.pair_filters.specs.declared.short_runs.LastLine.{LastLine}
use Rattle.pair_filters.specs.declared.runs.Rules.{Rules}
use Rattle.pair_filters.specs.UniqSteps.{contents_behind, greatest_by, text_by}

-- the bytes from one place up to another
abbrev pub line_at : List ℕ → ℕ → ℕ → List ℕ
line_at bytes start end = take (end - start) (drop start bytes)

-- whether the last line and the line after it, which ends at `end`, are the same
abbrev pub are_alike : List ℕ → LastLine → ℕ → Bool
are_alike bytes last end =
    bytes_eq (line_at bytes last.start last.end) (line_at bytes (last.end + 1) end)

-- The lines from `from` up to `at` were taken, and `made` grew to `made'`: whatever bytes follow,
-- that and what is written of the rest is as before, and no number is greater.
pub record TakesUpTo (rules : Rules) (begun begun' : List (List ℕ)) (bytes : List ℕ) (from at : ℕ)
    (made made' : List ℕ) : Type 0 where
  pub splits : (zs : List ℕ)
      → made ++ text_by rules (begun ++ contents_behind [] (drop from bytes ++ zs))
      ≡ made' ++ text_by rules (begun' ++ contents_behind [] (drop at bytes ++ zs))
  pub counts : (zs : List ℕ)
      → greatest_by rules (begun' ++ contents_behind [] (drop at bytes ++ zs))
      ≤ greatest_by rules (begun ++ contents_behind [] (drop from bytes ++ zs))

-- A run began with the line from `start` to `end`. Lines after it were taken, up to the last one.
pub record TakesRuns (rules : Rules) (bytes : List ℕ) (start end : ℕ) (last : LastLine)
    (made made' : List ℕ) : Type 0 where
  pub line : FirstFrom bytes newline last.start last.end
  pub some : 1 ≤ last.count
  pub order : end ≤ last.end
  pub taken : TakesUpTo rules (replicate 1 (line_at bytes start end))
      (replicate last.count (line_at bytes last.start last.end)) bytes (end + 1) (last.end + 1)
      made made'
