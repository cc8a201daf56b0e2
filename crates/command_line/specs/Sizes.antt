-- Sizes: numbers of bytes, as `64K`.
--
-- The value of `--bytes` or `--block` may be a size, which is decimal digits and a unit after them.
-- A word that has such a value gets the number of bytes in its place. No other word changes: so
-- does no value of `-c`, and no word after `--`, which ends the options (POSIX.1-2017 XBD 12.2,
-- guideline 10).
use Rattle.std.specs.Prelude.{ℕ, ◌+◌, ◌*◌, ◌-◌, ◌==◌, nat_le, ◌&&◌, ◌||◌, List, [], ◌∷◌, ◌++◌}
use Rattle.std.specs.Prelude.{Option, Some, None, bytes_eq, codes, decimal, drop, length, take}
use Rattle.std.specs.Prelude.{if◌then◌else◌, option_and_then}
use Rattle.std.specs.Char.{is_ascii_digit}
use Rattle.std.specs.List.{slice_index, starts_with}
use Rattle.clap.specs.Words.{Text}
use Rattle.command_line.specs.declared.sizes.Place.{Place}
use Rattle.command_line.specs.declared.sizes.Place.TheVariants.{Plain, Script, Bytes, Block}
use Rattle.command_line.specs.declared.sizes.Place.TheVariants.{Operand}

-- how many bytes a unit is: K is 1,024, M is 1,024 K, and G is 1,024 M, each as a capital or not
abbrev pub unit_of : ℕ → Option ℕ
unit_of letter = if letter == 75 || letter == 107 then Some 1024
    else (if letter == 77 || letter == 109 then Some 1048576
    else (if letter == 71 || letter == 103 then Some 1073741824 else None))

-- the number with one digit more, if this is a digit and the number is at most the greatest
abbrev pub with_digit : ℕ → ℕ → ℕ → Option ℕ
with_digit most number digit =
    if is_ascii_digit digit && nat_le (number * 10 + (digit - 48)) most
    then Some (number * 10 + (digit - 48)) else None

-- the number with these digits more, if they are digits and it is at most the greatest
abbrev pub with_digits : ℕ → ℕ → List ℕ → Option ℕ
with_digits most number [] = Some number
with_digits most number (digit ∷ rest) =
    option_and_then (λ longer. with_digits most longer rest) (with_digit most number digit)

-- this many units as a number of bytes, if it is from 1 to the greatest
abbrev pub sized : ℕ → Option ℕ → Option ℕ → Option ℕ
sized most (Some unit) (Some number) =
    if nat_le 1 (number * unit) && nat_le (number * unit) most then Some (number * unit) else None
sized most _ _ = None

-- the number of bytes that a text means as a size: the last letter is the unit, and what comes
-- before it the digits. It is from 1 to the greatest, or the text is no size.
abbrev pub size_of : ℕ → Text → Option ℕ
size_of most text = sized most (unit_of (slice_index text (length text - 1)))
    (with_digits most 0 (take (length text - 1) text))

-- a value with a size as a plain number: a value that is no size stays
abbrev pub plain_by : Text → Option ℕ → Text
plain_by value (Some size) = decimal size
plain_by value None = value

abbrev pub plain : ℕ → Text → Text
plain most value = plain_by value (size_of most value)

-- what comes after this text in a word that begins with it
abbrev pub after : Text → Text → Option Text
after start word = if starts_with (λ x y. x == y) word start
    then Some (drop (length start) word) else None

-- a word that may have the value of `--bytes` or of `--block` after `=`
abbrev pub plain_attached : Text → Option Text → Option Text → Text
plain_attached word (Some bytes) _ = codes "--bytes=" ++ plain 268435456 bytes
plain_attached word None (Some block) = codes "--block=" ++ plain 65536 block
plain_attached word None None = word

-- a word with a plain number in place of a size, by the place that it has
abbrev pub with_plain_size : Place → Text → Text
with_plain_size Plain word =
    plain_attached word (after (codes "--bytes=") word) (after (codes "--block=") word)
with_plain_size Bytes word = plain 268435456 word
with_plain_size Block word = plain 65536 word
with_plain_size Script word = word
with_plain_size Operand word = word

-- the place after a word that is no value of `-c` and no operand after `--`
abbrev pub place_after : Text → Place
place_after word = if bytes_eq word (codes "--") then Operand
    else (if bytes_eq word (codes "-c") then Script
    else (if bytes_eq word (codes "--bytes") then Bytes
    else (if bytes_eq word (codes "--block") then Block else Plain)))

-- the place of the word that comes after this one
abbrev pub next_place : Place → Text → Place
next_place Operand word = Operand
next_place Script word = if bytes_eq word (codes "--") then Operand else Plain
next_place _ word = place_after word

-- the words from one of this place on
abbrev pub with_plain_sizes_from : Place → List Text → List Text
with_plain_sizes_from place [] = []
with_plain_sizes_from place (word ∷ rest) = with_plain_size place word
    ∷ with_plain_sizes_from (next_place place word) rest

-- all words
abbrev pub with_plain_sizes : List Text → List Text
with_plain_sizes words = with_plain_sizes_from Plain words
