-- The strings of tr, cut into elements (POSIX.1-2017 XCU tr, EXTENDED DESCRIPTION).
--
-- A single element is one byte, or a backslash and what it escapes. A string begins with the first
-- of these that fits: a class `[:name:]`, an equivalence class `[=x=]`, a repeat `[x*n]`, a range
-- `x-y`, or a single element.
use Rattle.std.specs.Prelude.{ℕ, zero, suc, ◌+◌, ◌-◌, ◌*◌, List, [], ◌∷◌, Bool, ◌==◌, Option, Some}
use Rattle.std.specs.Prelude.{None, option_map, length, take, drop, min, nat_le, codes}
use Rattle.std.specs.Prelude.{if◌then◌else◌}
use Rattle.std.specs.List.{fold, list_all, prefix_len, take_while}
use Rattle.command_words.specs.Bytes.{backslash}
use Rattle.command_words.specs.Texts.{◌>>=◌}
use Rattle.tr_words.specs.Classes.{begins, class_named, is_digit, is_lower}
use Rattle.command_words.specs.Bytes.{is_from}
use Rattle.tr_words.specs.declared.element.Single.{Single}
use Rattle.tr_words.specs.declared.element.Element.{Element}
use Rattle.tr_words.specs.declared.element.Element.TheVariants.{Byte, Range, OfClass, Equivalence}
use Rattle.tr_words.specs.declared.element.Element.TheVariants.{Repeat}
use Rattle.tr_words.specs.declared.element.Found.{Found}

-- the most bytes that a string may mean
abbrev pub string_max : ℕ
string_max = 65536

-- the number that digits mean
abbrev pub number : ℕ → List ℕ → ℕ
number radix digits = fold (λ n x. radix * n + (x - 48)) 0 digits

-- whether a byte is an octal digit
abbrev pub is_octal : ℕ → Bool
is_octal x = is_from 48 55 x

-- the octal digits of one escape: up to three, but two if three mean more than 255
abbrev pub octal_digits : List ℕ → List ℕ
octal_digits xs = let digits = take_while is_octal (take 3 xs) in if nat_le (number 8 digits) 255
    then digits else take 2 digits

-- what a backslash and this byte mean, if it is no octal digit: alert, backspace, form feed,
-- newline, carriage return, tab, vertical tab, or otherwise that byte
abbrev pub escaped : ℕ → ℕ
escaped x =
    if x == 97 then 7
    else (if x == 98 then 8
    else (if x == 102 then 12
    else (if x == 110 then 10
    else (if x == 114 then 13
    else (if x == 116 then 9
    else (if x == 118 then 11
    else x))))))

-- a byte, and the number of bytes that it is written in
abbrev pub written_in : ℕ → ℕ → Single
written_in byte length = record { byte = byte; length = length }

-- the single element that a backslash begins, if xs follows it; the last byte of a string is itself
abbrev pub escape : List ℕ → Single
escape [] = written_in backslash 1
escape (x ∷ xs) =
    if is_octal x
    then (let digits = octal_digits (x
    ∷ xs) in written_in (number 8 digits) (length digits + 1))
    else written_in (escaped x) 2

-- the single element in front
abbrev pub single_at : List ℕ → Option Single
single_at [] = None
single_at (x ∷ xs) = Some (if x == backslash then escape xs else written_in x 1)

-- an element, and the number of bytes that it is written in
abbrev pub found : Option Element → ℕ → Found
found element length = record { element = element; length = length }

-- a class at the beginning: `[:`, letters and `:]`; refused if no class has that name
abbrev pub class_at : List ℕ → Option Found
class_at xs =
    let rest = drop 2 xs in
    let n = prefix_len is_lower rest in
    if begins (codes "[:") xs
    then (if begins (codes ":]") (drop n rest)
    then Some (found (option_map OfClass (class_named (take n rest))) (n + 4)) else None)
    else None

-- an equivalence class in front: `[=`, one single element and `=]`
abbrev pub equivalence_at : List ℕ → Option Found
equivalence_at xs =
    if begins (codes "[=") xs
    then (single_at (drop 2 xs) >>= λ x. if begins (codes "=]") (drop x.length (drop 2 xs))
    then Some (found (Some (Equivalence x.byte)) (x.length + 4)) else None)
    else None

-- How often a repeat repeats its byte, 0 for as often as needed: a leading 0 makes the digits
-- octal. A greater number than a string may mean counts as one more than that. Refused if octal
-- digits have an 8 or a 9.
abbrev pub repeat_count : List ℕ → Option ℕ
repeat_count digits =
    if begins (codes "0") digits
    then (if list_all is_octal digits then Some (min (number 8 digits) (string_max + 1)) else None)
    else Some (min (number 10 digits) (string_max + 1))

-- a repeat of this byte, after this many bytes, if digits and `]` follow
abbrev pub repeat_of : ℕ → ℕ → List ℕ → Option Found
repeat_of byte before xs =
    let n = prefix_len is_digit xs in
    if begins (codes "]") (drop n xs)
    then Some (found (option_map (Repeat byte) (repeat_count (take n xs))) (before + n + 1))
    else None

-- a repeat in front: `[`, one single element, `*`, digits or none, and `]`
abbrev pub repeat_at : List ℕ → Option Found
repeat_at xs =
    if begins (codes "[") xs
    then (single_at (drop 1 xs)
    >>= λ x. if begins (codes "*") (drop x.length (drop 1 xs))
    then repeat_of x.byte (x.length + 2) (drop (x.length + 2) xs) else None)
    else None

-- the range of these bytes, unless it is reversed
abbrev pub range_of : ℕ → ℕ → Option Element
range_of first last = if nat_le first last then Some (Range first last) else None

-- a range at the beginning: a single element, `-` and a single element; refused if it is reversed
abbrev pub range_at : List ℕ → Option Found
range_at xs =
    single_at xs >>= λ x. if begins (codes "-") (drop x.length xs)
    then (single_at (drop (x.length + 1) xs)
    >>= λ y. Some (found (range_of x.byte y.byte) (x.length + 1 + y.length)))
    else None

-- a single element in front
abbrev pub byte_at : List ℕ → Option Found
byte_at xs = single_at xs >>= λ x. Some (found (Some (Byte x.byte)) x.length)

-- this, or otherwise that
abbrev pub or_else : {A : Type 0} → Option A → Option A → Option A
or_else None y = y
or_else (Some x) y = Some x

-- the first that fits
abbrev pub first_at : List ℕ → Option Found
first_at xs =
    or_else (class_at xs)
    (or_else (equivalence_at xs) (or_else (repeat_at xs) (or_else (range_at xs) (byte_at xs))))

-- the elements of a string whose first bytes, this many, belong to the element before
abbrev pub elements_after : ℕ → List ℕ → Option (List Element)
elements_after passed [] = Some []
elements_after (suc passed) (x ∷ xs) = elements_after passed xs
elements_after zero (x ∷ xs) =
    first_at (x ∷ xs) >>= λ f. f.element >>= λ element. elements_after (f.length - 1) xs
    >>= λ elements. Some (element ∷ elements)

-- the elements of a string
abbrev pub elements : List ℕ → Option (List Element)
elements xs = elements_after 0 xs
