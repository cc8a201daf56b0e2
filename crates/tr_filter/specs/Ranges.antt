-- Ranges of bytes that move or become one byte. Only what the machine shows cites them.
use Rattle.std.specs.Prelude.{ℕ, ◌+◌, ◌%◌, List, map, if◌then◌else◌}
use Rattle.std.specs.Int.Bits.{bit_and}
use Rattle.command_words.specs.Bytes.{is_from}
use Rattle.tr_words.specs.Classes.{all_bytes}
use Rattle.tr_filter.specs.declared.ranges.Range.{Range}
use Rattle.tr_filter.specs.declared.ranges.Ranges.{Ranges}

-- what a byte becomes by one range, or otherwise the other one
abbrev pub ranged : Range → ℕ → ℕ → ℕ
ranged r x other = if is_from r.low r.high x then (bit_and x r.keeps + r.by) % 256 else other

-- what a byte becomes
abbrev pub becomes : Ranges → ℕ → ℕ
becomes rs x = ranged rs.fourth x (ranged rs.third x (ranged rs.second x (ranged rs.first x x)))

-- for each byte what it becomes
abbrev pub ranges_table : Ranges → List ℕ
ranges_table rs = map (becomes rs) all_bytes
