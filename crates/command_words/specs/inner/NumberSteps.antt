-- A number that is read digit by digit. No public contract cites this file.
use Rattle.std.specs.Prelude.{ℕ, ◌+◌, ◌-◌, ◌*◌, ◌&&◌, List, [], ◌∷◌, Option, Some, None, nat_le}
use Rattle.std.specs.Prelude.{if◌then◌else◌}
use Rattle.command_words.specs.Texts.{◌>>=◌}
use Rattle.command_words.specs.Numbers.{is_digit, greatest}

-- a number with a digit more, if it is not too great then
abbrev pub with_digit : ℕ → ℕ → Option ℕ
with_digit n x = if is_digit x && nat_le (n * 10 + (x - 48)) greatest then Some (n * 10 + (x - 48))
    else None

-- with all these
abbrev pub with_digits : ℕ → List ℕ → Option ℕ
with_digits n [] = Some n
with_digits n (x ∷ xs) = with_digit n x >>= λ m. with_digits m xs
