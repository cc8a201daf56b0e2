-- The classes of bytes in the POSIX locale (POSIX.1-2017 XBD 7.3.1 LC_CTYPE). No byte above 127 is
-- in a class.
use Rattle.std.specs.Prelude.{ℕ, List, [], ◌∷◌, Bool, Option, ◌||◌, ◌==◌, nat_eq, codes}
use Rattle.std.specs.List.{filter, find, range_with_len, starts_with}
use Rattle.command_words.specs.Bytes.{is_from, is_space}
use Rattle.command_words.specs.Texts.{same_bytes}
use Rattle.tr_words.specs.declared.class.Class.{Class}
use Rattle.tr_words.specs.declared.class.Class.TheVariants.{Alnum, Alpha, Blank, Cntrl, Digit}
use Rattle.tr_words.specs.declared.class.Class.TheVariants.{Graph, Lower, Print, Punct, Space}
use Rattle.tr_words.specs.declared.class.Class.TheVariants.{Upper, Xdigit}

-- whether a byte is a capital letter
abbrev pub is_upper : ℕ → Bool
is_upper x = is_from 65 90 x

-- whether a byte is a small letter
abbrev pub is_lower : ℕ → Bool
is_lower x = is_from 97 122 x

-- whether a byte is a decimal digit
abbrev pub is_digit : ℕ → Bool
is_digit x = is_from 48 57 x

-- whether a byte is in a class
abbrev pub is_in : Class → ℕ → Bool
is_in Upper x = is_upper x
is_in Lower x = is_lower x
is_in Digit x = is_digit x
is_in Alpha x = is_upper x || is_lower x
is_in Alnum x = is_upper x || is_lower x || is_digit x
is_in Xdigit x = is_digit x || is_from 65 70 x || is_from 97 102 x
is_in Space x = is_space x
is_in Blank x = (x == 9) || (x == 32)
is_in Cntrl x = is_from 0 31 x || (x == 127)
is_in Punct x = is_from 33 47 x || is_from 58 64 x || is_from 91 96 x || is_from 123 126 x
is_in Graph x = is_from 33 126 x
is_in Print x = is_from 32 126 x

-- the bytes, rising
unfoldable pub all_bytes : List ℕ
all_bytes = range_with_len 0 256

-- the bytes of a class, rising
abbrev pub members : Class → List ℕ
members class = filter (is_in class) all_bytes

-- whether a string begins with these bytes
abbrev pub begins : List ℕ → List ℕ → Bool
begins front string = starts_with nat_eq string front

-- the name of a class
abbrev pub name_of : Class → List ℕ
name_of Alnum = codes "alnum"
name_of Alpha = codes "alpha"
name_of Blank = codes "blank"
name_of Cntrl = codes "cntrl"
name_of Digit = codes "digit"
name_of Graph = codes "graph"
name_of Lower = codes "lower"
name_of Print = codes "print"
name_of Punct = codes "punct"
name_of Space = codes "space"
name_of Upper = codes "upper"
name_of Xdigit = codes "xdigit"

-- the classes, in the order of their names
abbrev pub all_classes : List Class
all_classes = Alnum ∷ Alpha ∷ Blank ∷ Cntrl ∷ Digit ∷ Graph ∷ Lower ∷ Print ∷ Punct ∷ Space ∷ Upper
    ∷ Xdigit ∷ []

-- the class of this name, if there is one
abbrev pub class_named : List ℕ → Option Class
class_named name = find (λ class. same_bytes name (name_of class)) all_classes
