-- What the words of tee mean, without the utility's name (POSIX.1-2017 XCU tee, SYNOPSIS and
-- OPTIONS).
--
-- `-i` asks to ignore SIGINT: it changes no byte. In the standard an operand `-` names a file `-`.
-- Here it is refused, since many take it for the standard output. So is a path of the standard
-- output, since tee writes that already.
use Rattle.std.specs.Prelude.{ℕ, List, Option, Some, None, codes, if◌then◌else◌}
use Rattle.std.specs.List.{list_any}
use Rattle.command_words.specs.Arguments.{is_given}
use Rattle.command_words.specs.Streams.{is_standard_output}
use Rattle.command_words.specs.Options.{splits}
use Rattle.command_words.specs.Texts.{◌>>=◌}
use Rattle.commands.specs.declared.tee_words.TeeSpec.{TeeSpec}

-- the letter of the option that appends
abbrev pub letter_a : ℕ
letter_a = 97

-- `tee [-ai] [file...]`
abbrev pub tee_means : List (List ℕ) → Option TeeSpec
tee_means words =
    splits (codes "ai") words >>= λ o.
    if list_any is_standard_output o.operands then None else Some (record {
      append = is_given letter_a o.given;
      outputs = o.operands;
    })
