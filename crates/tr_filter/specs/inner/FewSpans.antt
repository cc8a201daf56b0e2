-- One or two spans that cover sets of bytes. No public contract cites this file but what the
-- machine shows.
use Rattle.std.specs.Prelude.{◌≡◌, ℕ, ◌<◌, ◌||◌, Bool, false, List, Option}
use Rattle.lanes.specs.Spans.{in_span}
use Rattle.tr_words.specs.Tr.{in_set}
use Rattle.tr_filter.specs.declared.few.Few.{Few}
use Rattle.tr_filter.specs.declared.few.Few.TheVariants.{One, Two}

-- whether a byte is in one of the spans
abbrev pub in_few : Few → ℕ → Bool
in_few (One span) x = in_span span x
in_few (Two first second) x = in_span first x || in_span second x

-- a byte in none of them is not in the set
abbrev pub Covers : Few → Option (List Bool) → Type 0
Covers few set = (x : ℕ) → x < 256 → in_few few x ≡ false → in_set set x ≡ false
