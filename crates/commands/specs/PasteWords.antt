-- What the words of paste mean, without the utility's name (POSIX.1-2017 XCU paste, SYNOPSIS,
-- OPTIONS and OPERANDS).
use Rattle.std.specs.Prelude.{ℕ, ◌==◌, ◌||◌, not, Bool, List, [], ◌∷◌, Option, Some, None, codes}
use Rattle.std.specs.Prelude.{length, take, map, filter, if◌then◌else◌}
use Rattle.std.specs.List.{enumerate_from, position_or_len}
use Rattle.command_words.specs.Arguments.{argument, is_given}
use Rattle.command_words.specs.Streams.{is_standard_input}
use Rattle.command_words.specs.Bytes.{backslash, dash, newline, tab}
use Rattle.command_words.specs.Letters.{letter_d, letter_n, letter_s}
use Rattle.command_words.specs.Options.{Given, splits}
use Rattle.command_words.specs.Texts.{◌>>=◌}
use Rattle.commands.specs.declared.paste_words.PasteSpec.{PasteSpec}

-- the bytes that do not mean themselves after a backslash, besides the letter n
abbrev pub letter_t : ℕ
letter_t = 116

abbrev pub digit_zero : ℕ
digit_zero = 48

-- the delimiter that a backslash and this byte mean
abbrev pub escaped : ℕ → Option ℕ
escaped x = if x == letter_n then Some newline
    else (if x == letter_t then Some tab else (if x == digit_zero then None else Some x))

-- the delimiters of a list: each byte, but for a backslash and the byte after it
abbrev pub elements : List ℕ → List (Option ℕ)
elements [] = []
elements (x ∷ []) = Some x ∷ []
elements (x ∷ y ∷ ys) = if x == backslash then escaped y ∷ elements ys
    else Some x ∷ elements (y ∷ ys)

-- the delimiters by the argument of -d: a tab if there is none; an empty list is refused
abbrev pub delimiters_of : Option (List ℕ) → Option (List (Option ℕ))
delimiters_of None = Some (Some tab ∷ [])
delimiters_of (Some []) = None
delimiters_of (Some (x ∷ xs)) = Some (elements (x ∷ xs))

-- the place of the first `-`
abbrev pub first_standard : List (List ℕ) → ℕ
first_standard operands = position_or_len is_standard_input operands

-- whether an operand at a place names an input that none before it names, if the first `-` is at
-- `first`
abbrev pub is_own : ℕ → ℕ × List ℕ → Bool
is_own first p = (p.0 == first) || not (is_standard_input p.1)

-- the operands that do
abbrev pub own_names : ℕ → List (List ℕ) → List (List ℕ)
own_names first operands = map (λ p. p.1) (filter (is_own first) (enumerate_from 0 operands))

-- the names of the inputs: the operands but for each `-` after the first one
abbrev pub names : List (List ℕ) → List (List ℕ)
names operands = own_names (first_standard operands) operands

-- The number of the input that the operand at a place names: how many names come before it, and for
-- each `-` how many before the first one.
abbrev pub column : List (List ℕ) → ℕ × List ℕ → ℕ
column operands p = if is_standard_input p.1 then first_standard operands
    else length (own_names (first_standard operands) (take p.0 operands))

-- the same of all operands
abbrev pub columns : List (List ℕ) → List ℕ
columns operands = map (column operands) (enumerate_from 0 operands)

-- the operands; without them `-`
abbrev pub or_dash : List (List ℕ) → List (List ℕ)
or_dash [] = (dash ∷ []) ∷ []
or_dash (word ∷ words) = word ∷ words

-- what paste does by options and operands
abbrev pub paste_of_given : List Given → List (List ℕ) → Option PasteSpec
paste_of_given given operands =
    delimiters_of (argument letter_d given) >>= λ delimiters.
    Some (record {
      delimiters = delimiters;
      is_serial = is_given letter_s given;
      inputs = names operands;
      columns = columns operands;
    })

-- `paste [-s] [-d list] [file...]`
abbrev pub paste_means : List (List ℕ) → Option PasteSpec
paste_means words = splits (codes "d:s") words >>= λ o. paste_of_given o.given (or_dash o.operands)
