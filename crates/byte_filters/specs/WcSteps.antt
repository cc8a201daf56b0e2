-- How wc counts on, piece by piece. No public contract cites this file but what its machine shows.
use Rattle.std.specs.Prelude.{◌≡◌, ℕ, ◌+◌, ◌≤◌, ◌^◌, List, [], ◌∷◌, ◌++◌, Bool, true, false}
use Rattle.std.specs.Prelude.{slice_get, if◌then◌else◌}
use Rattle.machine.specs.declared.protocol.Presence.{Presence}
use Rattle.machine.specs.declared.protocol.Presence.TheVariants.{Present, Missing}
use Rattle.command_words.specs.Bytes.{space}
use Rattle.commands.specs.declared.wc_counts.Counts.{Counts}
use Rattle.commands.specs.declared.wc_words.WcSpec.{WcSpec}
use Rattle.commands.specs.Wc.{Tally, greatest, has_total, is_word, numbers, total_of}

-- this number more, if it is asked for
abbrev pub more_if : Bool → ℕ → ℕ → ℕ
more_if true a b = a + b
more_if false a b = a

-- two counts, added if they are asked for
abbrev pub added : WcSpec → Counts → Counts → Counts
added spec a b =
    record {
      lines = more_if spec.lines a.lines b.lines;
      words = more_if spec.words a.words b.words;
      bytes = more_if spec.bytes a.bytes b.bytes;
    }

-- two counts, added
abbrev pub plus : Counts → Counts → Counts
plus a b =
    record {
      lines = a.lines + b.lines;
      words = a.words + b.words;
      bytes = a.bytes + b.bytes;
    }

-- two counts have the same numbers if they are asked for
pub record Agree (spec : WcSpec) (a b : Counts) : Type 0 where
  pub lines : spec.lines ≡ true → a.lines ≡ b.lines
  pub words : spec.words ≡ true → a.words ≡ b.words
  pub bytes : spec.bytes ≡ true → a.bytes ≡ b.bytes

-- whether the last of these bytes belongs to a word; `before` comes before them all
abbrev pub ends_in_word : Bool → List ℕ → Bool
ends_in_word before [] = before
ends_in_word before (x ∷ xs) = ends_in_word (is_word x) xs

-- some number that is asked for is above 2^63 - 1
abbrev pub IsTooMany : WcSpec → Counts → Type 0
IsTooMany spec counts = 2 ^ 63 ≤ greatest (numbers spec counts)

-- whether an input is present
abbrev pub is_present : Presence → Bool
is_present Present = true
is_present Missing = false

-- a field of a line, after a space
abbrev pub spaced : List ℕ → List ℕ
spaced field = space ∷ field

-- the sums with those of an input more, if they are to be written
abbrev pub with_sums : WcSpec → Counts → Counts → Counts
with_sums spec sums counts = if has_total spec then added spec sums counts else sums

-- the sums once an input is over, by whether it is present
abbrev pub sums_after : WcSpec → Bool → Counts → Counts → Counts
sums_after spec true sums counts = with_sums spec sums counts
sums_after spec false sums counts = sums

-- the lines that are written when an input is over, by whether it is present and whether it is the
-- last one
abbrev pub closing : WcSpec → ℕ → Bool → Bool → Counts → Counts → List Tally
closing spec i here last counts sums =
    (if here then (slice_get spec.operands i, numbers spec counts) ∷ [] else [])
    ++ (if last then total_of spec sums else [])
