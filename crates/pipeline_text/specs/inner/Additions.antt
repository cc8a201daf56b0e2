-- A command that takes one more word or redirection. No public contract cites this file.
use Rattle.std.specs.Prelude.{ℕ, Bool, true, false, List, [], ◌∷◌, ◌++◌, Some, is_some, ◌||◌}
use Rattle.pipeline_text.specs.declared.token.Look.{Look}
use Rattle.pipeline_text.specs.declared.token.Redirection.{Redirection}
use Rattle.pipeline_text.specs.declared.token.Redirection.TheVariants.{Input, Output, Append}
use Rattle.pipeline_text.specs.SimpleCommands.{SimpleCommand}
use Rattle.pipeline_text.specs.Grammar.{begins_well}

abbrev pub no_words : List (List ℕ) → Bool
no_words [] = true
no_words (name ∷ names) = false

-- whether a command's words begin with one that names a utility, or there is none yet
abbrev pub begins_or_not : Look → List (List ℕ) → Bool
begins_or_not look words = no_words words || begins_well look words

-- the command with one more word
abbrev pub with_word : SimpleCommand → List ℕ → SimpleCommand
with_word c name = record c { cmd = record c.cmd { words = c.cmd.words ++ name ∷ [] } }

-- the command with its first word, which looks so
abbrev pub with_first_word : SimpleCommand → List ℕ → Look → SimpleCommand
with_first_word c name look = record (with_word c name) { look = look }

-- whether it has a redirection of this kind
abbrev pub has : SimpleCommand → Redirection → Bool
has c Input = is_some c.cmd.source
has c Output = is_some c.cmd.target
has c Append = is_some c.cmd.target

-- the command with one more redirection
abbrev pub with_redirection : SimpleCommand → Redirection → List ℕ → SimpleCommand
with_redirection c Input name = record c { cmd = record c.cmd { source = Some name } }
with_redirection c Output name =
    record c { cmd = record c.cmd { target = Some (record { name = name; append = false }) } }
with_redirection c Append name =
    record c { cmd = record c.cmd { target = Some (record { name = name; append = true }) } }
