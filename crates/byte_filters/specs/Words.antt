-- What wc counts as words, as the standard says it (POSIX.1-2017 XCU wc, DESCRIPTION): strings of
-- at least one byte, delimited by white space.
use Rattle.std.specs.Prelude.{◌≡◌, ℕ, List, [], ◌∷◌, Bool, true, false, length}
use Rattle.std.specs.List.{filter, slice_split}
use Rattle.command_words.specs.Bytes.{is_space}
use Rattle.commands.specs.Wc.{counts_of}

-- whether a string has a byte
abbrev pub has_byte : List ℕ → Bool
has_byte [] = false
has_byte (x ∷ xs) = true

-- the words of a stream: it is cut at each byte of class `space`
abbrev pub words : List ℕ → List (List ℕ)
words xs = filter has_byte (slice_split is_space xs)

-- as many words are counted as there are
abbrev pub WordsAreCounted : Type 0
WordsAreCounted = (xs : List ℕ) → (counts_of xs).words ≡ length (words xs)
