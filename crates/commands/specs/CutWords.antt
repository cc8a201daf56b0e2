-- What the words of cut mean, without the utility's name (POSIX.1-2017 XCU cut, SYNOPSIS and
-- OPTIONS).
use Rattle.std.specs.Prelude.{ℕ, Bool, true, false, List, [], ◌∷◌, Option, Some, None, codes}
use Rattle.std.specs.Prelude.{if◌then◌else◌, ◌==◌, ◌||◌, ◌&&◌, nat_le, count_by}
use Rattle.command_words.specs.Bytes.{tab}
use Rattle.command_words.specs.Options.{Given, splits}
use Rattle.command_words.specs.Texts.{◌>>=◌}
use Rattle.commands.specs.declared.cut_words.CutSpec.{CutSpec}
use Rattle.commands.specs.declared.cut_words.Parts.{Parts}
use Rattle.commands.specs.declared.cut_words.Parts.TheVariants.{Bytes, Fields}
use Rattle.command_words.specs.Arguments.{argument, is_given, input_names}
use Rattle.commands.specs.Lists.{ranges_in}
use Rattle.command_words.specs.Letters.{letter_b, letter_c, letter_d, letter_f, letter_n, letter_s}

-- Which options may be given together, by whether -b, -c, -f, -d, -n and -s are given: `cut -b list
-- [-n]`, `cut -c list` and `cut -f list [-d delim] [-s]`.
abbrev pub is_form : Bool → Bool → Bool → Bool → Bool → Bool → Bool
is_form true false false false n false = true
is_form false true false false false false = true
is_form false false true d false s = true
is_form b c f d n s = false

-- whether an option has a list
abbrev pub has_list : Given → Bool
has_list g = (g.0 == letter_b) || ((g.0 == letter_c) || (g.0 == letter_f))

-- Whether options that were given are in one of these forms. There is one list.
abbrev pub is_cut_form : List Given → Bool
is_cut_form given =
    nat_le (count_by has_list given) 1
    && is_form (is_given letter_b given) (is_given letter_c given) (is_given letter_f given)
    (is_given letter_d given) (is_given letter_n given) (is_given letter_s given)

-- a delimiter of one byte; a tab if none is given
abbrev pub delimiter_of : Option (List ℕ) → Option ℕ
delimiter_of None = Some tab
delimiter_of (Some []) = None
delimiter_of (Some (x ∷ [])) = Some x
delimiter_of (Some (x ∷ y ∷ ys)) = None

-- what is counted: fields with -f, otherwise bytes
abbrev pub parts_of : List Given → Option Parts
parts_of given =
    if is_given letter_f given
    then (delimiter_of (argument letter_d given)
    >>= λ byte. Some (Fields byte (is_given letter_s given)))
    else Some Bytes

-- the list, which is the argument of -b, -c or -f
abbrev pub list_of : List Given → Option (List ℕ)
list_of given = if is_given letter_f given then argument letter_f given
    else (if is_given letter_b given then argument letter_b given else argument letter_c given)

-- what cut does by options in one of its forms
abbrev pub cut_of_given : List Given → List (List ℕ) → Option CutSpec
cut_of_given given names =
    list_of given >>= λ list. ranges_in list >>= λ ranges. parts_of given
    >>= λ parts. Some (record {
      ranges = ranges;
      parts = parts;
      inputs = names;
    })

-- `cut` in each of its forms, and the files after it
abbrev pub cut_means : List (List ℕ) → Option CutSpec
cut_means words =
    splits (codes "b:c:f:d:ns") words >>= λ o.
    if is_cut_form o.given then (input_names o.operands >>= λ names. cut_of_given o.given names)
    else None
