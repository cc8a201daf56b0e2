-- How much was read, written and opened of the files of a run, and how often a pipe grew.
use Rattle.std.specs.Prelude.{ℕ, ◌+◌, ◌-◌, ◌^◌, Option, Some, None, min, suc}

-- a number, and this many more: at most 2^64 - 1
abbrev pub more : ℕ → ℕ → ℕ
more number count = min (number + count) (2 ^ 64 - 1)

-- how many bytes the inputs have together, once one of this size was opened; none if that of one is
-- not known, or is 0
abbrev pub with_input : Option ℕ → Option ℕ → Option ℕ
with_input (Some whole) (Some (suc rest)) = Some (more whole (suc rest))
with_input _ _ = None
