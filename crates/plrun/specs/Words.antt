-- The words of a process, as they are handed over.
--
-- The call that begins a process gives it its words and its variables (POSIX.1-2017 XSH exec; XBD
-- 8.1).
use Rattle.std.specs.Prelude.{◌≡◌, ℕ, List, map, take, Option, Some, None, Result, Ok, Err, IfSome}
use Rattle.std.specs.Prelude.{unwrap_or, []}
use Rattle.command_line.specs.Presets.{process_words}
use Rattle.command_line.specs.Sizes.{with_plain_sizes}
use Rattle.command_line.specs.Spellings.{with_default_values}
use Rattle.command_line.specs.Words.{text_of_bytes}
use Rattle.plrun.specs.declared.words.GivenWords.{GivenWords}
use Rattle.plrun.specs.declared.words.NotHanded.{NotHanded}
use Rattle.plrun.specs.declared.words.NotHanded.TheVariants.{NotThere}

-- These bytes, or none, were handed over in this room: as many of its first as the length says. If
-- there was too little room or memory, nothing is said.
abbrev pub Hands : Option (List ℕ) → List ℕ → Result ℕ NotHanded → Type 0
Hands held room (Ok length) = held ≡ Some (take length room)
Hands held room (Err NotThere) = held ≡ None
Hands held room (Err _) = Unit {0}

-- the words of the command line that were read, and the bytes of the variable, none if it is not
-- there
abbrev pub given_words : GivenWords → List (List ℕ)
given_words given = map (λ word. word.items) given.words.items

abbrev pub given_options : GivenWords → List ℕ
given_options given = given.options.items

-- These words and these options are those that are handed over, as far as they are known.
pub record AreHanded (words : Option (List (List ℕ))) (options : Option (Option (List ℕ)))
    (given : List (List ℕ)) (preset : List ℕ) : Type 0 where
  pub words_are : IfSome words (λ ws. given ≡ ws)
  pub options_are : IfSome options (λ held. preset ≡ unwrap_or held [])

-- The words that ask for something: those of the command line, with the options of the variable
-- that it does not give, a plain number for each size, and a value at each option.
abbrev pub asking_words : List (List ℕ) → List ℕ → List (List ℕ)
asking_words given preset =
    with_default_values (with_plain_sizes (map text_of_bytes (process_words given preset)))
