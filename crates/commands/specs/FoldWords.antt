-- What the words of a fold command mean (POSIX.1-2017 XCU fold, OPTIONS and OPERANDS).
use Rattle.std.specs.Prelude.{ℕ, List, Option, Some, None, ◌==◌, codes, if◌then◌else◌}
use Rattle.command_words.specs.Arguments.{argument, is_given, input_names}
use Rattle.command_words.specs.Letters.{letter_b, letter_s, letter_w}
use Rattle.command_words.specs.Numbers.{number}
use Rattle.command_words.specs.Options.{splits}
use Rattle.command_words.specs.Texts.{◌>>=◌}
use Rattle.commands.specs.declared.fold_words.FoldSpec.{FoldSpec}

-- the width that is given, which is a number other than 0; 80 if none is
abbrev pub width_of : Option (List ℕ) → Option ℕ
width_of None = Some 80
width_of (Some word) = number word >>= λ n. if n == 0 then None else Some n

-- `fold [-bs] [-w width] [file...]`
abbrev pub fold_means : List (List ℕ) → Option FoldSpec
fold_means words =
    splits (codes "bsw:") words >>= λ o.
    input_names o.operands >>= λ names.
    width_of (argument letter_w o.given) >>= λ width.
    Some (record {
      form =
          record {
            bytes = is_given letter_b o.given;
            spaces = is_given letter_s o.given;
            width
                = width;
          };
      inputs = names;
    })
