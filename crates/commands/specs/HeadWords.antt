-- What the words of head mean, without the utility's name (POSIX.1-2017 XCU head, SYNOPSIS and
-- OPTIONS).
use Rattle.std.specs.Prelude.{ℕ, List, Option, Some, codes}
use Rattle.command_words.specs.Options.{splits}
use Rattle.command_words.specs.Texts.{◌>>=◌}
use Rattle.commands.specs.declared.head_words.HeadSpec.{HeadSpec}
use Rattle.command_words.specs.Arguments.{argument, number_or, input_names}
use Rattle.command_words.specs.Letters.{letter_n}

-- `head [-n number] [file...]`: ten lines if no number is given
abbrev pub head_means : List (List ℕ) → Option HeadSpec
head_means words =
    splits (codes "n:") words >>= λ o.
    input_names o.operands >>= λ names.
    number_or 10 (argument letter_n o.given) >>= λ n. Some (record { count = n; inputs = names })
