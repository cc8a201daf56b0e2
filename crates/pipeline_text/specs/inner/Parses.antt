-- What a parser has left, and what it has read of a command, a pipeline, a script. No public
-- contract cites this file.
use Rattle.std.specs.Prelude.{◌≡◌, ◌≤◌, ◌<◌, ℕ, Bool, true, false, List, [], ◌∷◌, ◌++◌, Option}
use Rattle.std.specs.Prelude.{Some, None, Result, Ok, Err, ◌||◌, ◌⊎◌, if◌then◌else◌}
use Rattle.pipeline_text.specs.declared.fault.TextFaultKind.TheVariants as kinds
use Rattle.pipeline_text.specs.declared.fault.TextFault.{TextFault}
use Rattle.pipeline_text.specs.Refusals.{IsRefusal}
use Rattle.pipeline_text.specs.declared.token.Look.{Look}
use Rattle.pipeline_text.specs.declared.token.Control.{Control}
use Rattle.pipeline_text.specs.declared.token.Control.TheVariants.{Pipe}
use Rattle.pipeline_text.specs.declared.token.Redirection.{Redirection}
use Rattle.pipeline_text.specs.declared.token.Token.{Token}
use Rattle.pipeline_text.specs.declared.token.Token.TheVariants.{Number}
use Rattle.pipeline_text.specs.declared.command.Expected.{Expected}
use Rattle.pipeline_text.specs.declared.command.Expected.TheVariants as expected
use Rattle.pipeline_text.specs.SimpleCommands.{SimpleCommand}
use Rattle.pipeline_text.specs.declared.script.Pipeline.{Pipeline}
use Rattle.pipeline_text.specs.declared.script.Cmd.{Cmd}
use Rattle.pipeline_text.specs.declared.script.Script.{Script}
use Rattle.pipeline_text.specs.declared.script.Target.{Target}
use Rattle.pipeline_text.specs.declared.lexer.Lexer.{Lexer}
use Rattle.command_words.specs.Texts.{◌>>=◌}
use Rattle.pipeline_text.specs.Tokens.{with_token}
use Rattle.pipeline_text.specs.Grammar.{Commands, commands, first_with, if_utility, takes_word}
use Rattle.pipeline_text.specs.Grammar.{redirected, with_end, expected_after, pipelines}
use Rattle.pipeline_text.specs.Grammar.{with_pipeline, script, body, without_fifos, with_fifos}
use Rattle.pipeline_text.specs.Grammar.{is_empty, is_background}
use Rattle.pipeline_text.specs.inner.Takes.{is_newline_token, is_bang, fresh, name_of}
use Rattle.pipeline_text.specs.inner.Lexemes.{tokens_left}

-- ---- what is left

abbrev pub name_left : Option (List Token) → Option (List ℕ × List Token)
name_left ts = ts >>= name_of

abbrev pub fresh_left : Option (List Token) → Option (List Token)
fresh_left ts = ts >>= λ (ts : List Token). Some (fresh ts)

abbrev pub pipelines_of : Option (List Token) → Option (List Pipeline)
pipelines_of ts = (ts >>= commands expected.Pipeline) >>= pipelines

abbrev pub pipelines_left : Lexer → Option (List Pipeline)
pipelines_left l = pipelines_of (tokens_left l)

-- if a token was read, it is no newline, and there is less to read
abbrev pub IsFresh : Result (Option Token) TextFault → ℕ → ℕ → Type 0
IsFresh (Ok (Some t)) old new = (is_newline_token t ≡ false) × (new < old)
IsFresh (Ok None) old new = Unit {0}
IsFresh (Err fault) old new = Unit {0}

-- ---- a command

-- at most one of two
abbrev pub one_of : {A : Type 0} → Option A → Option A → Option (Option A)
one_of None b = Some b
one_of (Some a) None = Some (Some a)
one_of (Some a) (Some b) = None

-- the look of the first word, if some words come before others
abbrev pub first_look : List (List ℕ) → Look → Look → Look
first_look [] a b = b
first_look (name ∷ names) a b = a

-- what was read of a command, and the rest of it
abbrev pub followed_by : SimpleCommand → SimpleCommand → Option SimpleCommand
followed_by a b = one_of a.cmd.source b.cmd.source
    >>= λ (s : Option (List ℕ)). one_of a.cmd.target b.cmd.target >>= λ (t : Option Target).
    Some (record {
      negated = a.negated || b.negated;
      look = first_look a.cmd.words a.look b.look;
      cmd = record { words = a.cmd.words ++ b.cmd.words; source = s; target = t };
    })

-- the same commands, if something was read of the first
abbrev pub in_front : SimpleCommand → Commands → Commands
in_front a cs = first_with (followed_by a) cs

-- the commands of what is left, if something was read of the first one
abbrev pub commands_behind : SimpleCommand → Option (List Token) → Commands
commands_behind a ts = first_with if_utility (in_front a (ts >>= commands expected.Rest))

-- the same before a word, before a redirection, and before what ends the command
abbrev pub commands_at_word : SimpleCommand → List ℕ → Look → Option (List Token) → Commands
commands_at_word a name look ts =
    first_with if_utility (in_front a (first_with (takes_word name look) (ts
    >>= commands expected.Rest)))

abbrev pub commands_at : SimpleCommand → Redirection → Option (List Token) → Commands
commands_at a o ts =
    first_with if_utility (in_front a (name_left ts
    >>= λ (p : List ℕ × List Token). first_with (redirected o p.0) (commands expected.Rest p.1)))

abbrev pub commands_at_number : SimpleCommand → List ℕ → Option (List Token) → Commands
commands_at_number a n ts = commands_behind a (with_token (Number n) ts)

abbrev pub commands_at_end : SimpleCommand × Control → Option (List Token) → Commands
commands_at_end c ts =
    first_with if_utility (in_front c.0 (with_end c.1 (ts >>= commands (expected_after c.1))))

-- a command and what ends it, before the commands of what follows
abbrev pub command_before : SimpleCommand × Control → Option (List Token) → Commands
command_before c ts = (ts >>= commands (expected_after c.1))
    >>= λ (cs : List (SimpleCommand × Control)). Some (c ∷ cs)

-- the commands of tokens that may be none
abbrev pub commands_in : Expected → Option (List Token) → Commands
commands_in place ts = ts >>= commands place

-- the places at which a command may begin
abbrev pub is_begin : Expected → Bool
is_begin expected.Pipeline = true
is_begin expected.Command = true
is_begin expected.Rest = false

-- whether a token negates the pipeline that it begins
abbrev pub negates_at : Expected → Token → Bool
negates_at expected.Pipeline t = is_bang t
negates_at expected.Command t = false
negates_at expected.Rest t = false

-- ---- a pipeline

-- a pipeline after some of its commands were read, and how the last of them is ended; before what
-- follows
abbrev pub joins_on : Bool → List Cmd → Control → Option (List Pipeline) → Option (List Pipeline)
joins_on negated cs Pipe None = None
joins_on negated cs Pipe (Some []) = None
joins_on negated cs Pipe (Some (p ∷ ps)) = Some (record {
  negated = negated;
  background = p.background;
  commands = cs ++ p.commands;
} ∷ ps)
joins_on negated cs o ps = with_pipeline (record {
  negated = negated;
  background = is_background o;
  commands = cs;
}) ps

abbrev pub pipeline_goes : Pipeline → Control → Option (List Token) → Option (List Pipeline)
pipeline_goes p o ts =
    joins_on p.negated p.commands o ((ts >>= commands (expected_after o)) >>= pipelines)

-- a pipeline, before what follows it
abbrev pub pipeline_then : Pipeline → Option (List Token) → Option (List Pipeline)
pipeline_then p ts = with_pipeline p (pipelines_of ts)

-- if a pipeline was read, there is less to read
abbrev pub IsShorter : Result (Option Pipeline) TextFault → ℕ → ℕ → Type 0
IsShorter (Ok (Some p)) old new = new < old
IsShorter (Ok None) old new = Unit {0}
IsShorter (Err fault) old new = Unit {0}

-- a pipeline, or the end
abbrev pub pipeline_before : Option Pipeline → Option (List Pipeline) → Option (List Pipeline)
pipeline_before (Some p) ps = with_pipeline p ps
pipeline_before None ps = Some []

-- ---- a script

-- whether nothing is left
abbrev pub nothing_more : Option (List Pipeline) → Option (Unit {0})
nothing_more ps = ps >>= λ (ps : List Pipeline). if is_empty ps then Some tt else None

-- a script after some names were read
abbrev pub script_behind : List (List ℕ) → Option (List Pipeline) → Option Script
script_behind fifos ps = with_fifos fifos (ps >>= script)

-- its body, from the first pipeline on
abbrev pub body_behind : Pipeline → Option (List Pipeline) → Option (List Pipeline)
body_behind p ps = with_pipeline p ps >>= body

-- a script whose names were read, from the first pipeline on
abbrev pub script_of_body : List (List ℕ) → Pipeline → Option (List Pipeline) → Option Script
script_of_body fifos p ps = with_fifos fifos (without_fifos (body_behind p ps))

-- the pipelines, if there are any
abbrev pub some_left : Option (List Pipeline) → Option (List Pipeline)
some_left ps = ps >>= λ (ps : List Pipeline). if is_empty ps then None else Some ps

abbrev pub with_pipelines : List Pipeline → Option (List Pipeline) → Option (List Pipeline)
with_pipelines front ps = ps >>= λ (ps : List Pipeline). Some (front ++ ps)

-- ---- faults

-- a refusal, or in its place an operator that no `mkfifo` command has, which comes first
abbrev pub IsBlamed : TextFault → TextFault → Type 0
IsBlamed refusal given = (given ≡ refusal)
    ⊎ ((refusal.kind ≡ kinds.NoMemory → ⊥) × (given.offset ≤ refusal.offset)
    × (given.kind ≡ kinds.UnsupportedOperator))

-- a refusal of a text that has no value
abbrev pub IsSomeRefusal : List ℕ → TextFault → Type 0
IsSomeRefusal text fault = IsRefusal {A = ℕ} text fault None

-- a fault, or the refusal that was found
abbrev pub IsFirstFault : {X : Type 0} → Result X TextFault → TextFault → TextFault → Type 0
IsFirstFault (Ok x) fault given = given ≡ fault
IsFirstFault (Err refusal) fault given = (given ≡ refusal) ⊎ (given ≡ fault)
