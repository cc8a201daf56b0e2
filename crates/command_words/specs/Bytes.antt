-- Bytes by their names, and the sorts of bytes that commands tell apart (POSIX.1-2017 XBD 6.1, and
-- 7.3.1 LC_CTYPE of the POSIX locale).
use Rattle.std.specs.Prelude.{ℕ, Bool, ◌==◌, ◌&&◌, ◌||◌, nat_le}

abbrev pub nul : ℕ
nul = 0

abbrev pub tab : ℕ
tab = 9

abbrev pub newline : ℕ
newline = 10

abbrev pub space : ℕ
space = 32

abbrev pub double_quote : ℕ
double_quote = 34

abbrev pub number_sign : ℕ
number_sign = 35

abbrev pub dollar : ℕ
dollar = 36

abbrev pub ampersand : ℕ
ampersand = 38

abbrev pub single_quote : ℕ
single_quote = 39

abbrev pub dash : ℕ
dash = 45

abbrev pub colon : ℕ
colon = 58

abbrev pub semicolon : ℕ
semicolon = 59

abbrev pub less : ℕ
less = 60

abbrev pub equals : ℕ
equals = 61

abbrev pub greater : ℕ
greater = 62

abbrev pub backslash : ℕ
backslash = 92

abbrev pub underscore : ℕ
underscore = 95

abbrev pub backquote : ℕ
backquote = 96

abbrev pub bar : ℕ
bar = 124

abbrev pub tilde : ℕ
tilde = 126

abbrev pub is_blank_byte : ℕ → Bool
is_blank_byte b = (b == space) || (b == tab)

abbrev pub is_digit_byte : ℕ → Bool
is_digit_byte b = nat_le 48 b && nat_le b 57

-- whether a byte is one of those from low to high
abbrev pub is_from : ℕ → ℕ → ℕ → Bool
is_from low high x = nat_le low x && nat_le x high

-- a tab, newline, vertical tab, form feed, carriage return or space
abbrev pub is_space : ℕ → Bool
is_space x = is_from 9 13 x || (x == 32)
