-- The numbers that the words of a command line give.
use Rattle.std.specs.Prelude.{◌≡◌, ◌<◌, ◌≤◌, ℕ, Bool, true, false, List, Option, Some}
use Rattle.std.specs.Prelude.{bytes_eq, codes, find, min, not, option_and_then}
use Rattle.std.specs.Str.Parse.{digits_value, without_leading_plus}
use Rattle.clap.specs.Words.{IsUnsignedIn, Row, Text, one_of}
use Rattle.clap.specs.declared.parser.matches.ValueSource.{ValueSource}
use Rattle.clap.specs.declared.parser.matches.ValueSource.TheVariants as source
use Rattle.run_types.specs.declared.settings.Settings.{Settings}

-- The value of an option is a number from 1 to the greatest, and this is it.
abbrev pub GivesNumber : List Row → Text → ℕ → ℕ → Type 0
GivesNumber rows name most number = (text : Text) → one_of name rows ≡ Some text
    → IsUnsignedIn 1 most text → number ≡ digits_value 10 (without_leading_plus text)

-- whether this is the source of a value that a word gives
abbrev pub is_word : Option ValueSource → Bool
is_word (Some source.CommandLine) = true
is_word _ = false

-- whether a word gives this option its value; otherwise it has its default
abbrev pub is_given : List Row → Text → Bool
is_given rows name = is_word (option_and_then (λ r. r.source) (find (λ r. bytes_eq r.id name) rows))

-- The greatest piece: if a block is given, that is the greatest piece and the first read. Otherwise
-- it is 65,536 bytes, or as many as a pipe holds if these are fewer.
abbrev pub greatest_piece : Bool → ℕ → ℕ → ℕ
greatest_piece true first_read bytes = first_read
greatest_piece false first_read bytes = min 65536 bytes

-- These are the numbers that the options give, or their defaults. The first read is the number of
-- the block. The workers fit if no number of them is given.
pub record GivesSettings (rows : List Row) (settings : Settings) : Type 0 where
  pub workers : GivesNumber rows (codes "workers") 16 settings.workers
  pub fits_workers : settings.fits_workers ≡ not (is_given rows (codes "workers"))
  pub capacity : GivesNumber rows (codes "capacity") 4096 settings.capacity
  pub max_capacity : GivesNumber rows (codes "max-capacity") 4096 settings.max_capacity
  pub bytes : GivesNumber rows (codes "bytes") 268435456 settings.bytes
  pub first_read : GivesNumber rows (codes "block") 65536 settings.first_read
  pub block : settings.block
      ≡ greatest_piece (is_given rows (codes "block")) settings.first_read settings.bytes
  pub turns : GivesNumber rows (codes "turns") 1000000 settings.turns

-- the numbers that the options give, or their defaults, are within the limits and in order
pub record KnowsSettings (rows : List Row) : Type 0 where
  pub settings : Settings
  pub given : GivesSettings rows settings

-- the number that is given for the items of a grown pipe is below the one for the items of a pipe
abbrev pub GivesMaxCapacityBelowCapacity : List Row → Type 0
GivesMaxCapacityBelowCapacity rows =
    (max_capacity : ℕ) × (capacity : ℕ)
    × GivesNumber rows (codes "max-capacity") 4096 max_capacity
    × GivesNumber rows (codes "capacity") 4096 capacity
    × (max_capacity < capacity)

-- the number that is given for the items of a grown pipe is not below the one for the items of a
-- pipe
abbrev pub KnowsCapacities : List Row → Type 0
KnowsCapacities rows =
    (max_capacity : ℕ) × (capacity : ℕ)
    × GivesNumber rows (codes "max-capacity") 4096 max_capacity
    × GivesNumber rows (codes "capacity") 4096 capacity
    × (capacity ≤ max_capacity)

-- The number that is given for the bytes of a pipe is below the one for the bytes of a piece, or
-- below the default of that one.
abbrev pub GivesBytesBelowBlock : List Row → Type 0
GivesBytesBelowBlock rows =
    (bytes : ℕ) × (block : ℕ)
    × GivesNumber rows (codes "bytes") 268435456 bytes
    × GivesNumber rows (codes "block") 65536 block
    × (bytes < block)

-- an option has a value, which is a number from 1 to the greatest, and this is the number
abbrev pub HasNumber : List Row → Text → ℕ → ℕ → Type 0
HasNumber rows name most number = (text : Text) × (one_of name rows ≡ Some text)
    × IsUnsignedIn 1 most text × (number ≡ digits_value 10 (without_leading_plus text))

-- the number of one option is below that of another
abbrev pub HasBelow : List Row → Text → ℕ → Text → ℕ → Type 0
HasBelow rows name most other other_most = (number : ℕ) × (least : ℕ)
    × HasNumber rows name most number × HasNumber rows other other_most least × (number < least)
