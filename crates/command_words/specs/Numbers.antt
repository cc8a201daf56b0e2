-- Numbers in the arguments of options: decimal digits (POSIX.1-2017 XBD 12.1, 6), at most 2^63 - 1.
use Rattle.std.specs.Prelude.{ℕ, ◌+◌, ◌-◌, ◌*◌, ◌==◌, ◌&&◌, Bool, List, Option, Some, None, not}
use Rattle.std.specs.Prelude.{nat_le, length, if◌then◌else◌}
use Rattle.std.specs.List.{fold, list_all}

-- the greatest number
abbrev pub greatest : ℕ
greatest = 9223372036854775807

-- whether a byte is a decimal digit
abbrev pub is_digit : ℕ → Bool
is_digit x = nat_le 48 x && nat_le x 57

-- the number that these digits write after one that was written before them
abbrev pub written_behind : ℕ → List ℕ → ℕ
written_behind n digits = fold (λ m x. m * 10 + (x - 48)) n digits

-- the number that a word of one or more digits writes, if it is not too great
abbrev pub number : List ℕ → Option ℕ
number word =
    if not (length word == 0) && (list_all is_digit word && nat_le (written_behind 0 word) greatest)
    then Some (written_behind 0 word) else None
