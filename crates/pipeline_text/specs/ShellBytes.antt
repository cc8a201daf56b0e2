-- The sorts of bytes that the shell tells apart (POSIX.1-2017 XCU 2.2 and 2.3).
use Rattle.std.specs.Prelude.{ℕ, Bool, ◌==◌, ◌&&◌, ◌||◌, nat_le}
use Rattle.command_words.specs.Bytes.{newline, space, tab, ampersand, semicolon, less, greater, bar}
use Rattle.command_words.specs.Bytes.{dollar, backquote, double_quote, backslash, underscore}
use Rattle.command_words.specs.Bytes.{is_digit_byte}

-- what ends a word if it is unquoted: a blank, a newline, or a byte that begins an operator
abbrev pub ends_word : ℕ → Bool
ends_word b = (b == space) || (b == tab) || (b == newline) || (b == ampersand) || (b == 40)
    || (b == 41) || (b == semicolon) || (b == less) || (b == greater) || (b == bar)

-- what begins an expansion, in double quotes too
abbrev pub expands : ℕ → Bool
expands b = (b == dollar) || (b == backquote)

-- what a backslash quotes in double quotes (XCU 2.2.3)
abbrev pub is_special_in_double : ℕ → Bool
is_special_in_double b = expands b || (b == double_quote) || (b == backslash)

-- what a name begins with (XBD 3.235): a letter, or `_`
abbrev pub begins_name : ℕ → Bool
begins_name b = (nat_le 65 b && nat_le b 90) || (nat_le 97 b && nat_le b 122) || (b == underscore)

-- what a name goes on with
abbrev pub continues_name : ℕ → Bool
continues_name b = begins_name b || is_digit_byte b
