-- The words of a command line as texts.
--
-- The library that reads a command line takes texts, but a word of a process is bytes (POSIX.1-2017
-- XSH exec). So each byte of a word is a character of its text.
use Rattle.std.specs.Prelude.{ℕ, ◌+◌, ◌%◌, List, map, encode_utf8_all, if◌then◌else◌}
use Rattle.std.specs.Int.{is_in_range}
use Rattle.std.specs.Str.{chars}
use Rattle.clap.specs.Words.{Text}

-- the character that means a byte: itself if it is a printing character of ASCII, otherwise the one
-- whose number is greater by 256
abbrev pub character_of : ℕ → ℕ
character_of byte = if is_in_range 32 126 byte then byte else 256 + byte

-- the text that means these bytes
abbrev pub text_of_bytes : List ℕ → Text
text_of_bytes bytes = encode_utf8_all (map character_of bytes)

-- the bytes that a text means: the numbers of its characters, each modulo 256
abbrev pub bytes_of_text : Text → List ℕ
bytes_of_text text = map (λ number. number % 256) (chars text)
