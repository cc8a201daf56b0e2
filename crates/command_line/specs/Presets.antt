-- The words of a process with the options of PLRUN_OPTIONS among them.
--
-- The first word of a process is its name, and the rest are its arguments (POSIX.1-2017 XSH exec).
-- The words of the variable come between them. The word `--` ends the options of the rest
-- (POSIX.1-2017 XBD 12.2, guideline 10).
use Rattle.std.specs.Prelude.{◌≡◌, Some, ℕ, ◌==◌, Bool, not, ◌&&◌, ◌||◌, List, [], ◌∷◌, ◌++◌}
use Rattle.std.specs.Prelude.{Option, None, codes, bytes_eq, length, map, string_bytes, String}
use Rattle.std.specs.Prelude.{if◌then◌else◌}
use Rattle.std.specs.Char.{is_ascii_whitespace}
use Rattle.std.specs.List.{filter, find, list_any, slice_split, starts_with, take_while}
use Rattle.command_line.specs.Words.{bytes_of_text}
use Rattle.command_line.specs.declared.presets.NoWords.{NoWords}
use Rattle.command_line.specs.declared.presets.NoWords.TheVariants.{NoMemory, NoPreset}

-- a word is a list of bytes
abbrev pub Word : Type 0
Word = List ℕ

-- the words of the variable: its longest runs of bytes that are not white space. White space is a
-- tab, a newline, a form feed, a carriage return or a space.
abbrev pub words_of : List ℕ → List Word
words_of options = filter (λ word. not (length word == 0)) (slice_split is_ascii_whitespace options)

-- a word is this option, alone or with `=` and a value after it
abbrev pub is_option : Word → Word → Bool
is_option option word = bytes_eq word option
    || starts_with (λ x y. x == y) word (option ++ codes "=")

-- the words before the first `--`
abbrev pub before_end : List Word → List Word
before_end words = take_while (λ word. not (bytes_eq word (codes "--"))) words

-- a word before `--` is this option
abbrev pub is_given : List Word → Word → Bool
is_given words option = list_any (λ word. is_option option word) (before_end words)

-- the options that the variable may have
unfoldable pub the_presets : List Word
the_presets = codes "--workers" ∷ codes "--capacity" ∷ codes "--max-capacity" ∷ codes "--bytes"
    ∷ codes "--block" ∷ codes "--turns" ∷ codes "--strict" ∷ codes "--quiet-pipe"
    ∷ codes "--atomic" ∷ codes "--progress" ∷ codes "--stats" ∷ codes "--hints" ∷ []

-- a word is one of these options
abbrev pub is_preset : Word → Bool
is_preset word = list_any (λ option. is_option option word) the_presets

-- the words give the option that this word is
abbrev pub is_given_too : List Word → Word → Bool
is_given_too words word =
    list_any (λ option. is_option option word && is_given words option) the_presets

-- the long options that ask about the program itself
abbrev pub the_questions : List Word
the_questions = codes "--version" ∷ codes "--help" ∷ codes "--explain" ∷ []

-- a word asks about the program itself: by a long option, or it begins with `-V` or `-h`
abbrev pub asks : Word → Bool
asks word = list_any (λ option. is_option option word) the_questions
    || starts_with (λ x y. x == y) word (codes "-V")
    || starts_with (λ x y. x == y) word (codes "-h")

-- a word before `--` asks about the program itself
abbrev pub is_question : List Word → Bool
is_question words = list_any asks (before_end words)

-- The words of the variable that count: none if the rest asks about the program itself, and
-- otherwise those whose option the rest does not give.
abbrev pub presets_for : List Word → List ℕ → List Word
presets_for rest options = if is_question rest then []
    else filter (λ word. not (is_given_too rest word)) (words_of options)

-- the words of the process: its name, the words of the variable that count, and the rest
abbrev pub process_words : List Word → List ℕ → List Word
process_words [] options = []
process_words (name ∷ rest) options = (name ∷ presets_for rest options) ++ rest

-- how many of them are of the variable
abbrev pub preset_count : List Word → List ℕ → ℕ
preset_count [] options = 0
preset_count (name ∷ rest) options = length (presets_for rest options)

-- The word of the variable that is refused: the first that is none of its options. None is refused
-- if the rest asks about the program itself.
abbrev pub refused_preset : List Word → List ℕ → Option Word
refused_preset [] options = None
refused_preset (name ∷ rest) options = if is_question rest then None
    else find (λ word. not (is_preset word)) (words_of options)

-- what these texts mean, as bytes
abbrev pub bytes_of_texts : {Z : Type 0} → List (String Z) → List Word
bytes_of_texts texts = map (λ text. bytes_of_text (string_bytes text)) texts

-- Why there are no words: memory was refused, or this word of the variable is refused.
abbrev pub IsRefusedFor : List Word → List ℕ → NoWords → Type 0
IsRefusedFor given options NoMemory = Unit {0}
IsRefusedFor given options (NoPreset word) = refused_preset given options ≡ Some word.items
