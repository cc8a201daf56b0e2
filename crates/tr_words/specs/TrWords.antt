-- What the words of a tr command mean (POSIX.1-2017 XCU tr, OPTIONS, OPERANDS and DESCRIPTION).
use Rattle.std.specs.Prelude.{ℕ, ◌-◌, List, [], ◌∷◌, Bool, true, false, ◌==◌, ◌&&◌, ◌||◌, not}
use Rattle.std.specs.Prelude.{Option, Some, None, length, map, codes, if◌then◌else◌}
use Rattle.std.specs.List.{list_any}
use Rattle.command_words.specs.Arguments.{is_given}
use Rattle.command_words.specs.Letters.{letter_c, letter_capital_c, letter_d, letter_s}
use Rattle.command_words.specs.Options.{splits}
use Rattle.command_words.specs.Texts.{◌>>=◌}
use Rattle.command_words.specs.declared.options.Options.{Options}
use Rattle.tr_words.specs.Strings.{elements}
use Rattle.tr_words.specs.Expansions.{expanded, are_paired, as_member, is_repeat, may_be_second}
use Rattle.tr_words.specs.Tables.{complement, pairs_of, set_of, table_of}
use Rattle.tr_words.specs.declared.element.Element.{Element}
use Rattle.tr_words.specs.declared.expansion.Expansion.{Expansion}
use Rattle.tr_words.specs.declared.tr_words.TrSpec.{TrSpec}

-- under `-c` the bytes that are not named, and no class among them
abbrev pub complemented_if : Bool → Expansion → Expansion
complemented_if false x = x
complemented_if true x = record { bytes = complement x.bytes; classes = [] }

-- the first string, which holds no repeat
abbrev pub first_string : Bool → List ℕ → Option Expansion
first_string complements string =
    elements string
    >>= λ es. if list_any is_repeat es then None
    else (expanded 0 es >>= λ x. Some (complemented_if complements x))

-- a second string that is only a set
abbrev pub set_string : List ℕ → Option (List ℕ)
set_string string = elements string >>= λ es. expanded 0 (map as_member es) >>= λ x. Some x.bytes

-- whether the second string has a byte for each of the first
abbrev pub is_enough : List ℕ → List ℕ → Bool
is_enough first second = (length first == 0) || not (length second == 0)

-- what the elements of a second string mean, if an open repeat makes it this long, unless it is
-- longer already
abbrev pub filled : ℕ → List Element → Option Expansion
filled long es = expanded 0 es >>= λ short. expanded (long - length short.bytes) es

-- a second string to which the first is translated
abbrev pub second_string : Expansion → List ℕ → Option (List ℕ)
second_string first string =
    elements string >>= λ es. if may_be_second es
    then (filled (length first.bytes) es
    >>= λ x. if are_paired first.classes x.classes && is_enough first.bytes x.bytes
    then Some x.bytes else None)
    else None

-- what each byte becomes, which bytes are deleted, and of which bytes runs are squeezed
abbrev pub spec_of : List ℕ → Option (List Bool) → Option (List Bool) → TrSpec
spec_of table deleted squeezed = record { table = table; deleted = deleted; squeezed = squeezed }

-- the table that leaves each byte as it is
abbrev pub unchanged : List ℕ
unchanged = table_of []

-- one string, by whether `-d` and `-s` are given: just one of them
abbrev pub one_string : Bool → Bool → Bool → List ℕ → Option TrSpec
one_string complements true false string = first_string complements string
    >>= λ x. Some (spec_of unchanged (Some (set_of x.bytes)) None)
one_string complements false true string = first_string complements string
    >>= λ x. Some (spec_of unchanged None (Some (set_of x.bytes)))
one_string complements true true string = None
one_string complements false false string = None

-- `-d` and `-s` with two strings
abbrev pub deleting_and_squeezing : Bool → List ℕ → List ℕ → Option TrSpec
deleting_and_squeezing complements string1 string2 =
    first_string complements string1 >>= λ x. set_string string2
    >>= λ y. Some (spec_of unchanged (Some (set_of x.bytes)) (Some (set_of y)))

-- the set of these bytes, under `-s`
abbrev pub set_if : Bool → List ℕ → Option (List Bool)
set_if squeezes bytes = if squeezes then Some (set_of bytes) else None

-- translation of the first string to the second, and with `-s` squeezing of what is in the second
abbrev pub translating : Bool → Bool → List ℕ → List ℕ → Option TrSpec
translating complements squeezes string1 string2 =
    first_string complements string1 >>= λ x. second_string x string2
    >>= λ y. Some (spec_of (table_of (pairs_of x.bytes y)) None (set_if squeezes y))

-- two strings, by whether `-d` and `-s` are given
abbrev pub two_strings : Bool → Bool → Bool → List ℕ → List ℕ → Option TrSpec
two_strings complements true true string1 string2 =
    deleting_and_squeezing complements string1 string2
two_strings complements true false string1 string2 = None
two_strings complements false squeezes string1 string2 =
    translating complements squeezes string1 string2

-- a command by whether `-c`, `-d` and `-s` are given
abbrev pub command : Bool → Bool → Bool → List (List ℕ) → Option TrSpec
command complements deletes squeezes [] = None
command complements deletes squeezes (string ∷ []) = one_string complements deletes squeezes string
command complements deletes squeezes (string1 ∷ string2 ∷ []) =
    two_strings complements deletes squeezes string1 string2
command complements deletes squeezes (string1 ∷ string2 ∷ string3 ∷ strings) = None

-- what the words after `tr` mean; `-C` is as `-c`
abbrev pub tr_means : List (List ℕ) → Option TrSpec
tr_means words =
    splits (codes "cCds") words
    >>= λ (o : Options). command (is_given letter_c o.given
    || is_given letter_capital_c o.given) (is_given letter_d o.given)
    (is_given letter_s o.given) o.operands
