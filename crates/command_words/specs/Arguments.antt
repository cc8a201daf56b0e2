-- Options that were given, and the names of inputs (POSIX.1-2017 XBD 12.2, 11 and 13).
use Rattle.std.specs.Prelude.{ℕ, ◌==◌, Bool, false, List, [], ◌∷◌, Option, Some, None, nat_le}
use Rattle.std.specs.Prelude.{count_by, if◌then◌else◌}
use Rattle.std.specs.List.{list_any}
use Rattle.command_words.specs.Bytes.{dash}
use Rattle.command_words.specs.Streams.{is_standard_input}
use Rattle.command_words.specs.Options.{Given}
use Rattle.command_words.specs.Numbers.{number}

-- the argument of an option, if it has this letter
abbrev pub own_argument : ℕ → Given → Option (List ℕ)
own_argument letter g = if g.0 == letter then g.1 else None

-- the first of two, or the second if there is none
abbrev pub first_of_two : Option (List ℕ) → Option (List ℕ) → Option (List ℕ)
first_of_two (Some x) other = Some x
first_of_two None other = other

-- the argument of the last option with this letter
abbrev pub argument : ℕ → List Given → Option (List ℕ)
argument letter [] = None
argument letter (g ∷ given) = first_of_two (argument letter given) (own_argument letter g)

-- whether an option with this letter was given
abbrev pub is_given : ℕ → List Given → Bool
is_given letter given = list_any (λ (g : Given). g.0 == letter) given

-- a number that was given, or this one
abbrev pub number_or : ℕ → Option (List ℕ) → Option ℕ
number_or default None = Some default
number_or default (Some word) = number word

-- whether at most one of the words names standard input
abbrev pub names_input_once : List (List ℕ) → Bool
names_input_once words = nat_le (count_by is_standard_input words) 1

-- The names of the inputs: the operands, and at most one names standard input; without
-- operands standard input.
abbrev pub input_names : List (List ℕ) → Option (List (List ℕ))
input_names [] = Some ((dash ∷ []) ∷ [])
input_names (word ∷ words) = if names_input_once (word ∷ words) then Some (word ∷ words) else None
