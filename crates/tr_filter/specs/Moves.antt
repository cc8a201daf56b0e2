-- Two ranges of bytes that move, found by some of their bits. Only what the machine shows cites
-- them.
use Rattle.std.specs.Prelude.{ℕ, ◌+◌, ◌%◌, List, map, if◌then◌else◌}
use Rattle.std.specs.Int.Bits.{bit_and}
use Rattle.command_words.specs.Bytes.{is_from}
use Rattle.tr_words.specs.Classes.{all_bytes}
use Rattle.tr_filter.specs.declared.shift.Shift.{Shift}
use Rattle.tr_filter.specs.declared.moves.Moves.{Moves}

-- how far a byte moves, by those of its bits that are compared
abbrev pub distance : Shift → ℕ → ℕ
distance s x = if is_from s.low s.high x then s.by else 0

-- what a byte becomes
abbrev pub moved : Moves → ℕ → ℕ
moved ms x =
    ((x + distance ms.first (bit_and x ms.tests)) % 256
    + distance ms.second (bit_and x ms.tests)) % 256

-- for each byte what it becomes
abbrev pub moves_table : Moves → List ℕ
moves_table ms = map (moved ms) all_bytes
