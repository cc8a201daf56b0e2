-- What uniq compares of a line (POSIX.1-2017 XCU uniq, OPTIONS -f and -s). A field is the longest
-- match of the basic regular expression `[[:blank:]]*[^[:blank:]]*`.
use Rattle.std.specs.Prelude.{ℕ, zero, suc, List, Bool, not, drop}
use Rattle.std.specs.List.{prefix_len}
use Rattle.command_words.specs.Bytes.{is_blank_byte}

-- whether a byte is no blank
abbrev pub is_no_blank : ℕ → Bool
is_no_blank x = not (is_blank_byte x)

-- what follows the leading bytes that pass
abbrev pub behind_all : (ℕ → Bool) → List ℕ → List ℕ
behind_all passes xs = drop (prefix_len passes xs) xs

-- what follows the first field
abbrev pub after_field : List ℕ → List ℕ
after_field xs = behind_all is_no_blank (behind_all is_blank_byte xs)

-- what follows the first n fields
abbrev pub after_fields : ℕ → List ℕ → List ℕ
after_fields zero xs = xs
after_fields (suc n) xs = after_fields n (after_field xs)

-- The key of a line with this content: what follows this many fields, and then this many bytes.
abbrev pub key : ℕ → ℕ → List ℕ → List ℕ
key skipped_fields skipped_bytes content = drop skipped_bytes (after_fields skipped_fields content)
