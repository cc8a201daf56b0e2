use Rattle.std.proofs.Common.{◌≡◌, ℕ, ◌<◌, false, get_or, length, take}
use Rattle.tr_words.specs.Tables.{is_among}
use Rattle.tr_words.proofs.table.set_of.Given as goal

abbrev pub invariant-loop-byte : goal.invariant-loop-byte
invariant-loop-byte l = (length l.set ≡ 256)
    × ((x : ℕ) → x < 256 → get_or l.set x false ≡ is_among x (take l.byte-index l.bytes))
