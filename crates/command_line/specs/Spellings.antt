-- The words of a command line, with a value at each option that has one.
--
-- The value of `--progress`, `--hints`, `--plan`, `--shards`, `--stats`, `--atomic` or `--strict`
-- may be left out. If there is one, it is in the same word, after `=`, so that no operand is taken
-- for it. The value of `--explain` may be left out in the last word. The word `--` ends the options
-- (POSIX.1-2017 XBD 12.2, guideline 10).
use Rattle.std.specs.Prelude.{Bool, false, not, ◌&&◌, ◌||◌, ◌==◌, List, [], ◌∷◌, codes, bytes_eq}
use Rattle.std.specs.Prelude.{if◌then◌else◌, length}
use Rattle.clap.specs.Words.{Text}

-- a word before the end of the options, or after it, with its value; it is the last word or not
abbrev pub with_default_value : Bool → Bool → Text → Text
with_default_value ended last word = if not ended && bytes_eq word (codes "--progress")
    then codes "--progress=terminal"
    else (if not ended && bytes_eq word (codes "--hints") then codes "--hints=always"
    else (if not ended && bytes_eq word (codes "--plan") then codes "--plan=lines"
    else (if not ended && bytes_eq word (codes "--shards") then codes "--shards=lines"
    else (if not ended && bytes_eq word (codes "--stats") then codes "--stats=text"
    else (if not ended && bytes_eq word (codes "--atomic") then codes "--atomic=renamed"
    else (if not ended && bytes_eq word (codes "--strict") then codes "--strict=always"
    else (if not ended && last && bytes_eq word (codes "--explain") then codes "--explain=all"
    else word)))))))

-- whether the options have ended with this word, or before
abbrev pub has_ended : Bool → Text → Bool
has_ended ended word = ended || bytes_eq word (codes "--")

-- the words, once the options have ended or not
abbrev pub with_default_values_from : Bool → List Text → List Text
with_default_values_from ended [] = []
with_default_values_from ended (word ∷ rest) = with_default_value ended (length rest == 0) word
    ∷ with_default_values_from (has_ended ended word) rest

-- all words
abbrev pub with_default_values : List Text → List Text
with_default_values words = with_default_values_from false words
