-- The options and operands of a command's words (POSIX.1-2017 XBD 12.2 Utility Syntax Guidelines, 3
-- to 10): options precede operands; they may be grouped behind one dash, and an option's argument
-- is the rest of its word or the next word; `--` ends the options, and `-` alone is an operand.
--
-- The letters of a utility's options are written as for getopt: a letter, and a colon after it if
-- the option takes an argument.
use Rattle.std.specs.Prelude.{ℕ, Bool, false, List, [], ◌∷◌, ◌++◌, Option, Some, None, ◌==◌, ◌&&◌}
use Rattle.std.specs.Prelude.{if◌then◌else◌, drop}
use Rattle.command_words.specs.Bytes.{dash, colon}
use Rattle.command_words.specs.Texts.{◌>>=◌}
use Rattle.command_words.specs.declared.options.Options.{Options}

-- an option, and its argument if it takes one
abbrev pub Given : Type 0
Given = ℕ × Option (List ℕ)

-- whether c comes first
abbrev pub begins_with : ℕ → List ℕ → Bool
begins_with c [] = false
begins_with c (x ∷ xs) = x == c

-- whether a letter is among the letters; and if so, whether a colon follows it
abbrev pub kind_in : List ℕ → ℕ → Option Bool
kind_in [] letter = None
kind_in (x ∷ xs) letter = if x == letter then Some (begins_with colon xs) else kind_in xs letter

-- whether a byte is an option; and if so, whether it takes an argument
abbrev pub option_kind : List ℕ → ℕ → Option Bool
option_kind letters letter = if letter == colon then None else kind_in letters letter

-- these options, before those of what follows
abbrev pub with_given : List Given → Option (List Given × Option ℕ) → Option (List Given × Option ℕ)
with_given front g = g >>= λ (g : List Given × Option ℕ). Some (front ++ g.0, g.1)

-- an option that takes an argument, before the rest of its word: that is the argument, otherwise
-- the next word is
abbrev pub with_argument : ℕ → List ℕ → List Given × Option ℕ
with_argument letter [] = ([], Some letter)
with_argument letter (x ∷ xs) = ((letter, Some (x ∷ xs)) ∷ [], None)

-- the options of a group, and the one among them whose argument is the next word
abbrev pub group_of : List ℕ → List ℕ → Option (List Given × Option ℕ)
group_of letters [] = Some ([], None)
group_of letters (letter ∷ rest) = option_kind letters letter
    >>= λ takes. if takes then Some (with_argument letter rest)
    else with_given ((letter, None) ∷ []) (group_of letters rest)

-- `--`, which ends the options
abbrev pub is_end : List ℕ → Bool
is_end [] = false
is_end (a ∷ []) = false
is_end (a ∷ b ∷ []) = (a == dash) && (b == dash)
is_end (a ∷ b ∷ c ∷ xs) = false

-- a dash, and at least one byte after it
abbrev pub is_group : List ℕ → Bool
is_group [] = false
is_group (a ∷ []) = false
is_group (a ∷ b ∷ xs) = a == dash

-- these options, before what follows
abbrev pub with_front : List Given → Option Options → Option Options
with_front front s = s >>= λ (s : Options). Some (record {
  given = front ++ s.given;
  operands = s.operands;
})

-- The options and operands of words. If a letter still lacks its argument, the first word is that.
abbrev pub splits_after : Option ℕ → List ℕ → List (List ℕ) → Option Options
splits_after (Some letter) letters [] = None
splits_after (Some letter) letters (word ∷ words) =
    with_front ((letter, Some word) ∷ []) (splits_after None letters words)
splits_after None letters [] = Some (record { given = []; operands = [] })
splits_after None letters (word ∷ words) =
    if is_end word then Some (record { given = []; operands = words })
    else (if is_group word
    then (group_of letters (drop 1 word)
    >>= (λ (g : List Given × Option ℕ). with_front g.0 (splits_after g.1 letters words)))
    else Some (record { given = []; operands = word ∷ words }))

-- the options and operands of words
abbrev pub splits : List ℕ → List (List ℕ) → Option Options
splits letters words = splits_after None letters words
