-- What the words of a wc command mean (POSIX.1-2017 XCU wc, OPTIONS and OPERANDS).
use Rattle.std.specs.Prelude.{ℕ, List, ◌==◌, ◌&&◌, ◌||◌, Option, Some, None, length, codes}
use Rattle.std.specs.Prelude.{if◌then◌else◌}
use Rattle.command_words.specs.Arguments.{is_given, names_input_once}
use Rattle.command_words.specs.Letters.{letter_c, letter_l, letter_m, letter_w}
use Rattle.command_words.specs.Options.{splits}
use Rattle.command_words.specs.Texts.{◌>>=◌}
use Rattle.command_words.specs.declared.options.Options.{Options}
use Rattle.commands.specs.declared.wc_words.WcSpec.{WcSpec}

-- what is counted: what an option asks for, or all if none is given
abbrev pub wc_spec : Options → WcSpec
wc_spec o =
    let all = length o.given == 0 in
    record {
      lines = is_given letter_l o.given || all;
      words = is_given letter_w o.given || all;
      bytes = is_given letter_c o.given || is_given letter_m o.given || all;
      operands = o.operands;
    }

-- what the words after `wc` mean; `-m` is as `-c`, and not given with it
abbrev pub wc_means : List (List ℕ) → Option WcSpec
wc_means words =
    splits (codes "cmlw") words >>= λ (o : Options).
    if is_given letter_c o.given && is_given letter_m o.given then None
    else (if names_input_once o.operands then Some (wc_spec o) else None)
