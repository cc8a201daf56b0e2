-- Sets of bytes, by the two halves of a byte. No public contract cites this file but what the
-- machine shows.
use Rattle.std.specs.Prelude.{◌≡◌, ℕ, ◌<◌, ◌/◌, ◌%◌, ◌==◌, Bool, not, List, Option, slice_index}
use Rattle.std.specs.Prelude.{bit_and, bit_or}
use Rattle.tr_words.specs.Tr.{in_set}
use Rattle.tr_filter.specs.declared.nibbles.Nibbles.{Nibbles}
use Rattle.tr_filter.specs.declared.nibbles.TheConstants.{EARLY, LATE}

-- whether a byte is not in the set of these tables
abbrev pub is_left : Nibbles → ℕ → Bool
is_left ns x =
    bit_or (bit_and (slice_index ns.early (x % 16)) (slice_index EARLY (x / 16)))
    (bit_and (slice_index ns.late (x % 16)) (slice_index LATE (x / 16)))
    == 0

-- the tables have just the bytes of this set
abbrev pub Leaves : Nibbles → Option (List Bool) → Type 0
Leaves ns set = (x : ℕ) → x < 256 → is_left ns x ≡ not (in_set set x)
