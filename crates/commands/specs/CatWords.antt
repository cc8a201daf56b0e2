-- What the words of cat mean, without the utility's name (POSIX.1-2017 XCU cat, SYNOPSIS and
-- OPTIONS).
--
-- `-u` asks for no delay: it changes no byte.
use Rattle.std.specs.Prelude.{ℕ, List, Option, Some, codes}
use Rattle.command_words.specs.Arguments.{input_names}
use Rattle.command_words.specs.Options.{splits}
use Rattle.command_words.specs.Texts.{◌>>=◌}
use Rattle.commands.specs.declared.cat_words.CatSpec.{CatSpec}

-- `cat [-u] [file...]`
abbrev pub cat_means : List (List ℕ) → Option CatSpec
cat_means words = splits (codes "u") words >>= λ o. input_names o.operands
    >>= λ names. Some (record { inputs = names })
