-- Spans that cover sets of bytes. No public contract cites this file but what the machine shows.
use Rattle.std.specs.Prelude.{◌≡◌, ℕ, ◌<◌, Bool, false, List, Option, take, slice_index}
use Rattle.lanes.specs.Spans.{in_spans}
use Rattle.tr_words.specs.Tr.{in_set}
use Rattle.tr_filter.specs.declared.spans.Spans.{Spans}

-- whether a byte is in one of the spans; there may be none
abbrev pub in_all : Spans → ℕ → Bool
in_all spans x = in_spans (take spans.count spans.spans) x

-- a byte in none of the spans is not in the set either
abbrev pub Cover : Option (List Bool) → Spans → Type 0
Cover set spans = (x : ℕ) → x < 256 → in_all spans x ≡ false → in_set set x ≡ false

-- the spans have the bytes of the set, and no others
abbrev pub Exact : Option (List Bool) → Spans → Type 0
Exact set spans = (x : ℕ) → x < 256 → in_all spans x ≡ in_set set x

-- the table leaves each byte as it is
abbrev pub IsPlain : List ℕ → Type 0
IsPlain table = (x : ℕ) → x < 256 → slice_index table x ≡ x
