-- The list of cut: numbers and ranges, separated by commas or blanks (POSIX.1-2017 XCU cut,
-- OPTIONS).
use Rattle.std.specs.Prelude.{ℕ, ◌==◌, ◌&&◌, ◌||◌, Bool, List, [], ◌∷◌, Option, Some, None, nat_le}
use Rattle.std.specs.Prelude.{if◌then◌else◌}
use Rattle.std.specs.List.{before_first, after_first, slice_split}
use Rattle.command_words.specs.Bytes.{dash, space, tab}
use Rattle.command_words.specs.Texts.{◌>>=◌}
use Rattle.commands.specs.declared.range.Range.{Range}
use Rattle.commands.specs.Cut.{has_byte}
use Rattle.command_words.specs.Numbers.{number}
use Rattle.commands.specs.Selections.{is_up_to}

abbrev pub comma : ℕ
comma = 44

-- whether a byte separates two elements
abbrev pub is_separator : ℕ → Bool
is_separator x = x == comma || (x == space || x == tab)

-- a range, if its first number is at least 1 and not above its last one
abbrev pub range_of : ℕ → Option ℕ → Option Range
range_of first last = if nat_le 1 first && is_up_to last first then Some (record {
  first = first;
  last = last;
}) else None

-- the range of what comes before a dash and after it: without a first number it begins with 1
abbrev pub range_between : List ℕ → List ℕ → Option Range
range_between [] [] = None
range_between [] (y ∷ high) = number (y ∷ high) >>= λ last. range_of 1 (Some last)
range_between (x ∷ low) [] = number (x ∷ low) >>= λ first. range_of first None
range_between (x ∷ low) (y ∷ high) = number (x ∷ low) >>= λ first. number (y ∷ high)
    >>= λ last. range_of first (Some last)

-- the range of an element: a number by itself is its own first and last one
abbrev pub element : List ℕ → Option Range
element part =
    if has_byte dash part
    then range_between (before_first (λ x. x == dash) part) (after_first (λ x. x == dash) part)
    else (number part >>= λ n. range_of n (Some n))

-- the ranges of elements
abbrev pub ranges_of : List (List ℕ) → Option (List Range)
ranges_of [] = Some []
ranges_of (part ∷ parts) = element part >>= λ range. ranges_of parts
    >>= λ ranges. Some (range ∷ ranges)

-- the ranges of a list
abbrev pub ranges_in : List ℕ → Option (List Range)
ranges_in list = ranges_of (slice_split is_separator list)
