-- The script of a text's tokens (POSIX.1-2017 XCU 2.7 Redirection, 2.9.2 Pipelines, 2.9.3 Lists,
-- 2.10 Shell Grammar): `mkfifo` commands, then pipelines in the background, then one in the
-- foreground.
use Rattle.std.specs.Prelude.{ℕ, Bool, true, false, not, List, [], ◌∷◌, ◌++◌, length, Option, Some}
use Rattle.std.specs.Prelude.{None, is_some, ◌==◌, ◌&&◌, nat_lt, if◌then◌else◌, codes}
use Rattle.std.specs.List.{list_any, list_all}
use Rattle.command_words.specs.Bytes.{dash}
use Rattle.pipeline_text.specs.declared.token.Look.{Look}
use Rattle.pipeline_text.specs.declared.token.Look.TheVariants.{Unquoted, Assignment, PartlyQuoted}
use Rattle.pipeline_text.specs.declared.token.Control.{Control}
use Rattle.pipeline_text.specs.declared.token.Control.TheVariants.{Pipe, Background, Semicolon}
use Rattle.pipeline_text.specs.declared.token.Control.TheVariants.{Newline}
use Rattle.pipeline_text.specs.declared.token.Redirection.{Redirection}
use Rattle.pipeline_text.specs.declared.token.Redirection.TheVariants.{Input, Output, Append}
use Rattle.pipeline_text.specs.declared.token.Operator.TheVariants as operators
use Rattle.pipeline_text.specs.declared.token.Token.{Token}
use Rattle.pipeline_text.specs.declared.token.Token.TheVariants.{Word, Number, Operator}
use Rattle.pipeline_text.specs.declared.command.Expected.{Expected}
use Rattle.pipeline_text.specs.declared.command.Expected.TheVariants as expected
use Rattle.pipeline_text.specs.SimpleCommands.{SimpleCommand}
use Rattle.pipeline_text.specs.declared.script.Cmd.{Cmd}
use Rattle.pipeline_text.specs.declared.script.Pipeline.{Pipeline}
use Rattle.pipeline_text.specs.declared.script.Script.{Script}
use Rattle.command_words.specs.Texts.{◌>>=◌, same_bytes}
use Rattle.pipeline_text.specs.Quotes.{marks}
use Rattle.pipeline_text.specs.Tokens.{tokens}

-- ---- commands

-- the words that a command cannot begin with if they are unquoted (XCU 2.4 Reserved Words)
abbrev pub reserved : List (List ℕ)
reserved = codes "!" ∷ codes "{" ∷ codes "}" ∷ codes "case" ∷ codes "do" ∷ codes "done"
    ∷ codes "elif" ∷ codes "else" ∷ codes "esac" ∷ codes "fi" ∷ codes "for" ∷ codes "if"
    ∷ codes "in" ∷ codes "then" ∷ codes "until" ∷ codes "while" ∷ []

abbrev pub is_reserved : List ℕ → Bool
is_reserved name = list_any (same_bytes name) reserved

-- whether a command may begin with a word
abbrev pub may_begin : Look → List ℕ → Bool
may_begin Unquoted name = not (is_reserved name)
may_begin Assignment name = false
may_begin PartlyQuoted name = true

-- whether a command's words begin with one that names a utility
abbrev pub begins_well : Look → List (List ℕ) → Bool
begins_well look [] = false
begins_well look (name ∷ names) = may_begin look name

-- a command of which no token has come
abbrev pub nothing : SimpleCommand
nothing =
    record {
      negated = false;
      look = PartlyQuoted;
      cmd = record { words = []; source = None; target = None };
    }

-- The ways to put one more token in front of a command: `!`, a word, a redirection. No command
-- reads from two files, or writes to two.
abbrev pub negates : SimpleCommand → Option SimpleCommand
negates c = Some (record { negated = true; look = c.look; cmd = c.cmd })

abbrev pub takes_word : List ℕ → Look → SimpleCommand → Option SimpleCommand
takes_word name look c = Some (record {
  negated = c.negated;
  look = look;
  cmd = record { words = name ∷ c.cmd.words; source = c.cmd.source; target = c.cmd.target };
})

abbrev pub reads_from : List ℕ → SimpleCommand → Option SimpleCommand
reads_from name c = if is_some c.cmd.source then None else Some (record {
  negated = c.negated;
  look = c.look;
  cmd = record { words = c.cmd.words; source = Some name; target = c.cmd.target };
})

abbrev pub writes_to : List ℕ → Bool → SimpleCommand → Option SimpleCommand
writes_to name append c = if is_some c.cmd.target then None else Some (record {
  negated = c.negated;
  look = c.look;
  cmd =
      record {
        words = c.cmd.words;
        source = c.cmd.source;
        target = Some
            (record { name = name; append = append });
      };
})

abbrev pub redirected : Redirection → List ℕ → SimpleCommand → Option SimpleCommand
redirected Input name = reads_from name
redirected Output name = writes_to name false
redirected Append name = writes_to name true

-- the number of the descriptor that a redirection is of, in the one way that it may be written
abbrev pub descriptor : Redirection → List ℕ
descriptor Input = codes "0"
descriptor Output = codes "1"
descriptor Append = codes "1"

abbrev pub redirected_as : List ℕ → Redirection → List ℕ → SimpleCommand → Option SimpleCommand
redirected_as number o name c = if same_bytes number (descriptor o) then redirected o name c
    else None

-- a word that may begin a pipeline, and any other word: only in the first an unquoted `!` negates
abbrev pub word_where : Expected → List ℕ → Look → SimpleCommand → Option SimpleCommand
word_where expected.Pipeline name Unquoted c = if same_bytes name (codes "!") then negates c
    else takes_word name Unquoted c
word_where _ name look c = takes_word name look c

-- commands in order, each with what ends it; the end of the text does so as `;` does
abbrev pub Commands : Type 0
Commands = Option (List (SimpleCommand × Control))

-- the same commands, the first of them with one more token in front
abbrev pub first_with : (SimpleCommand → Option SimpleCommand) → Commands → Commands
first_with add None = None
first_with add (Some []) = None
first_with add (Some (c ∷ cs)) = add c.0 >>= λ (d : SimpleCommand). Some ((d, c.1) ∷ cs)

abbrev pub if_utility : SimpleCommand → Option SimpleCommand
if_utility c = if begins_well c.look c.cmd.words then Some c else None

-- these commands, if the first is whole from here on: it must begin with a utility's name
abbrev pub begun_at : Expected → Commands → Commands
begun_at expected.Pipeline cs = first_with if_utility cs
begun_at expected.Command cs = first_with if_utility cs
begun_at expected.Rest cs = cs

abbrev pub is_newline : Control → Bool
is_newline Newline = true
is_newline _ = false

-- what is expected after a command that is ended like this
abbrev pub expected_after : Control → Expected
expected_after Pipe = expected.Command
expected_after _ = expected.Pipeline

-- the end of a command, before the commands after it
abbrev pub with_end : Control → Commands → Commands
with_end o cs = cs >>= λ (cs : List (SimpleCommand × Control)). Some ((nothing, o) ∷ cs)

-- The commands of tokens, if a pipeline, a command or the rest of one is expected. Newlines are
-- allowed before a pipeline or a command.
abbrev pub commands : Expected → List Token → Commands
commands expected.Pipeline [] = Some []
commands expected.Command [] = None
commands expected.Rest [] = Some ((nothing, Semicolon) ∷ [])
commands place (Word name look ∷ ts) =
    begun_at place (first_with (word_where place name look) (commands expected.Rest ts))
commands place (Number n ∷ Operator (operators.Redirection o) ∷ Word name look ∷ ts) =
    begun_at place (first_with (redirected_as n o name) (commands expected.Rest ts))
commands place (Number n ∷ ts) = None
commands place (Operator (operators.Redirection o) ∷ Word name look ∷ ts) =
    begun_at place (first_with (redirected o name) (commands expected.Rest ts))
commands place (Operator (operators.Redirection o) ∷ ts) = None
commands expected.Rest (Operator (operators.Control o) ∷ ts) =
    with_end o (commands (expected_after o) ts)
commands expected.Pipeline (Operator (operators.Control o) ∷ ts) = if is_newline o
    then commands expected.Pipeline ts else None
commands expected.Command (Operator (operators.Control o) ∷ ts) = if is_newline o
    then commands expected.Command ts else None

-- ---- pipelines

abbrev pub is_background : Control → Bool
is_background Background = true
is_background _ = false

abbrev pub with_pipeline : Pipeline → Option (List Pipeline) → Option (List Pipeline)
with_pipeline p ps = ps >>= λ (ps : List Pipeline). Some (p ∷ ps)

-- a pipeline of one command
abbrev pub alone : SimpleCommand → Control → Pipeline
alone c o = record { negated = c.negated; background = is_background o; commands = c.cmd ∷ [] }

-- the same pipelines, the first of them with one more command in front
abbrev pub piped_into : SimpleCommand → Option (List Pipeline) → Option (List Pipeline)
piped_into c None = None
piped_into c (Some []) = None
piped_into c (Some (p ∷ ps)) = Some (record {
  negated = c.negated;
  background = p.background;
  commands = c.cmd ∷ p.commands;
} ∷ ps)

-- commands that are joined by `|` are a pipeline
abbrev pub pipelines : List (SimpleCommand × Control) → Option (List Pipeline)
pipelines [] = Some []
pipelines ((c, Pipe) ∷ cs) = piped_into c (pipelines cs)
pipelines ((c, o) ∷ cs) = with_pipeline (alone c o) (pipelines cs)

-- ---- the script

-- what follows a word that comes first
abbrev pub names_behind : List ℕ → List (List ℕ) → Option (List (List ℕ))
names_behind utility [] = None
names_behind utility (name ∷ names) = if same_bytes name utility then Some names else None

-- the names of a `mkfifo` command, if a pipeline begins with one
abbrev pub first_names : Bool → List Cmd → Option (List (List ℕ))
first_names negated [] = None
first_names true (c ∷ cs) = None
first_names false (c ∷ cs) = names_behind (codes "mkfifo") c.words

abbrev pub fifo_names : Pipeline → Option (List (List ℕ))
fifo_names p = first_names p.negated p.commands

-- whether a name does not begin with a dash
abbrev pub is_name : List ℕ → Bool
is_name [] = true
is_name (b ∷ x) = not (b == dash)

abbrev pub are_names : List (List ℕ) → Bool
are_names [] = false
are_names (name ∷ names) = list_all is_name (name ∷ names)

-- a command by itself, with no redirection
abbrev pub is_bare : List Cmd → Bool
is_bare (c ∷ []) = not (is_some c.source) && not (is_some c.target)
is_bare _ = false

-- what a `mkfifo` command has to be: by itself, in the foreground, with no redirection, and with
-- names
abbrev pub makes_fifos : Pipeline → List (List ℕ) → Bool
makes_fifos p names = not p.background && is_bare p.commands && are_names names

abbrev pub is_empty : List Pipeline → Bool
is_empty [] = true
is_empty (p ∷ ps) = false

-- pipelines in the background, and then the one in the foreground
abbrev pub body : List Pipeline → Option (List Pipeline)
body [] = None
body (p ∷ ps) = if p.background then with_pipeline p (body ps)
    else (if is_empty ps then Some (p ∷ []) else None)

abbrev pub without_fifos : Option (List Pipeline) → Option Script
without_fifos ps = ps >>= λ (ps : List Pipeline). Some (record { fifos = []; pipelines = ps })

abbrev pub with_fifos : List (List ℕ) → Option Script → Option Script
with_fifos names s = s >>= λ (s : Script). Some (record {
  fifos = names ++ s.fifos;
  pipelines = s.pipelines;
})

-- what the first pipeline makes of all of them, and of those after it: if it begins with `mkfifo`,
-- it makes names
abbrev pub begun_with : Pipeline → Option (List (List ℕ)) → Option (List Pipeline) → Option Script
    → Option Script
begun_with p None whole rest = without_fifos whole
begun_with p (Some names) whole rest = if makes_fifos p names then with_fifos names rest else None

-- the `mkfifo` commands, and then the pipelines
abbrev pub script : List Pipeline → Option Script
script [] = None
script (p ∷ ps) = begun_with p (fifo_names p) (body (p ∷ ps)) (script ps)

-- the script of tokens
abbrev pub parsed : List Token → Option Script
parsed ts = (commands expected.Pipeline ts >>= pipelines) >>= script

-- the greatest length of a script's text, in bytes
abbrev pub text_max : ℕ
text_max = 65536

-- the script of a text
abbrev pub script_of : List ℕ → Option Script
script_of text = if nat_lt text_max (length text) then None else (marks text >>= tokens) >>= parsed
