-- How fast the files of a run are read, which share of them was, and how long the rest takes.
use Rattle.std.specs.Prelude.{ℕ, ◌+◌, ◌*◌, ◌/◌, ◌%◌, ◌-◌, ◌^◌, Option, Some, None, max, min, suc}

-- how many bytes were read in a second, if this many were in this many milliseconds; less than one
-- counts as one
abbrev pub rate_of : ℕ → ℕ → ℕ
rate_of bytes millis = min (bytes * 1000 / max millis 1) (2 ^ 64 - 1)

-- the share of the whole that was read, in hundredths and at most 100; none if the whole is not
-- known, or is empty
abbrev pub share_of : ℕ → Option ℕ → Option ℕ
share_of read (Some (suc rest)) = Some (min (read * 100 / suc rest) 100)
share_of read _ = None

-- how many seconds a rest takes at a rate, rounded up, so 0 only if nothing is left; none if the
-- rate is 0
abbrev pub seconds_of : ℕ → ℕ → Option ℕ
seconds_of rest (suc less) = Some (rest / suc less + min 1 (rest % suc less))
seconds_of rest _ = None

-- the same of what is left of the whole; none if that is not known
abbrev pub seconds_left_of : Option ℕ → ℕ → ℕ → Option ℕ
seconds_left_of (Some whole) read rate = seconds_of (whole - read) rate
seconds_left_of None read rate = None
