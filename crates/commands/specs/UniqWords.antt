-- What the words of uniq mean, without the utility's name: `uniq [-c|-d|-u] [-f fields] [-s char]
-- [input_file [output_file]]` (POSIX.1-2017 XCU uniq, SYNOPSIS, OPTIONS and OPERANDS).
use Rattle.std.specs.Prelude.{ℕ, Bool, true, false, List, [], ◌∷◌, Option, Some, None, codes}
use Rattle.std.specs.Prelude.{if◌then◌else◌}
use Rattle.command_words.specs.Arguments.{argument, is_given, input_names, number_or}
use Rattle.command_words.specs.Streams.{is_standard_output}
use Rattle.command_words.specs.Letters.{letter_c, letter_d, letter_f, letter_s, letter_u}
use Rattle.command_words.specs.Options.{Given, splits}
use Rattle.command_words.specs.Texts.{◌>>=◌}
use Rattle.commands.specs.declared.uniq_words.RunsShown.{RunsShown}
use Rattle.commands.specs.declared.uniq_words.RunsShown.TheVariants.{Every, Counted, Repeated}
use Rattle.commands.specs.declared.uniq_words.RunsShown.TheVariants.{Single}
use Rattle.commands.specs.declared.uniq_words.UniqSpec.{UniqSpec}

-- which runs are written, by whether -c, -d and -u are given, of which at most one may be
abbrev pub shown_by : Bool → Bool → Bool → Option RunsShown
shown_by false false false = Some Every
shown_by true false false = Some Counted
shown_by false true false = Some Repeated
shown_by false false true = Some Single
shown_by counted repeated single = None

-- the same of options that were given
abbrev pub shown_of : List Given → Option RunsShown
shown_of given =
    shown_by (is_given letter_c given) (is_given letter_d given) (is_given letter_u given)

-- the output with this name, if there is a name: none for a name of the standard output
abbrev pub output_of : Option (List ℕ) → Option (List ℕ)
output_of None = None
output_of (Some word) = if is_standard_output word then None else Some word

-- the names of the only input and of the output, if there is one
abbrev pub files_of : List (List ℕ) → Option (List (List ℕ) × Option (List ℕ))
files_of [] = input_names [] >>= λ names. Some (names, None)
files_of (input ∷ []) = Some (input ∷ [], None)
files_of (input ∷ output ∷ []) = Some (input ∷ [], output_of (Some output))
files_of (input ∷ output ∷ more ∷ words) = None

-- what uniq does by options and operands
abbrev pub uniq_of_given : List Given → List (List ℕ) → Option UniqSpec
uniq_of_given given operands =
    shown_of given >>= λ shown.
    files_of operands >>= λ (files : List (List ℕ) × Option (List ℕ)).
    number_or 0 (argument letter_f given) >>= λ fields.
    number_or 0 (argument letter_s given) >>= λ bytes.
    Some (record {
      skipped_fields = fields;
      skipped_bytes = bytes;
      shown = shown;
      inputs = files.0;
      output = files.1;
    })

-- what it does by words
abbrev pub uniq_means : List (List ℕ) → Option UniqSpec
uniq_means words = splits (codes "cduf:s:") words >>= λ o. uniq_of_given o.given o.operands
