-- The end that is left of an input whose reader needs no more, and the search for its beginning.
--
-- The search goes from the end of the bytes to their front, so no more of them is looked at than
-- that end.
use Rattle.std.specs.Prelude.{◌≡◌, ℕ, ◌+◌, ◌-◌, ◌==◌, ◌≤◌, List, length, take, drop, max, count_by}
use Rattle.std.specs.List.{concat}
use Rattle.machine.specs.Lines.{lines, newline}
use Rattle.collector.specs.InputEnds.{EndsLine}
use Rattle.collector.specs.declared.needed.NeededEnd.{NeededEnd}
use Rattle.collector.specs.declared.needed.NeededEnd.TheVariants.{Lines, Bytes}
use Rattle.file_stores.specs.declared.ends.Search.{Search}
use Rattle.file_stores.specs.declared.ends.Search.TheVariants.{Found, Before}

-- What is left of these bytes: their last lines, this many and at least one, or their last bytes.
abbrev pub end_of : NeededEnd → List ℕ → List ℕ
end_of (Lines n) bytes = concat (drop (length (lines bytes) - max n 1) (lines bytes))
end_of (Bytes n) bytes = drop (length bytes - n) bytes

-- how many newlines there are
abbrev pub newlines_in : List ℕ → ℕ
newlines_in bytes = count_by (λ x. x == newline) bytes

-- What a search found, from the end of these bytes, that passes over this many newlines. The bytes
-- before the place end with the next one. Or there is none, and this many are still to be passed.
abbrev pub Finds : ℕ → List ℕ → Search → Type 0
Finds passed bytes (Found place) = (place ≤ length bytes) × EndsLine (take place bytes)
    × (newlines_in (drop place bytes) ≡ passed)
Finds passed bytes (Before left) = newlines_in bytes + left ≡ passed
