-- The tokens in front that a parser takes. No public contract cites this file.
use Rattle.std.specs.Prelude.{ℕ, Bool, true, false, List, [], ◌∷◌, Option, Some, None}
use Rattle.std.specs.Prelude.{if◌then◌else◌, codes}
use Rattle.pipeline_text.specs.declared.token.Look.TheVariants.{Unquoted}
use Rattle.pipeline_text.specs.declared.token.Control.{Control}
use Rattle.pipeline_text.specs.declared.token.Control.TheVariants.{Pipe, Newline}
use Rattle.pipeline_text.specs.declared.token.Redirection.{Redirection}
use Rattle.pipeline_text.specs.declared.token.Operator.TheVariants as operators
use Rattle.pipeline_text.specs.declared.token.Token.{Token}
use Rattle.pipeline_text.specs.declared.token.Token.TheVariants.{Word, Operator}
use Rattle.command_words.specs.Texts.{◌>>=◌}
use Rattle.command_words.specs.Texts.{same_bytes}

-- the control operator that a token is
abbrev pub control_of : Token → Option Control
control_of (Operator (operators.Control o)) = Some o
control_of _ = None

abbrev pub is_newline_token : Token → Bool
is_newline_token (Operator (operators.Control Newline)) = true
is_newline_token _ = false

abbrev pub is_pipe : Control → Bool
is_pipe Pipe = true
is_pipe _ = false

-- the redirection that a token is
abbrev pub redirection_in : Option Token → Option Redirection
redirection_in (Some (Operator (operators.Redirection o))) = Some o
redirection_in _ = None

-- an unquoted `!`
abbrev pub is_bang : Token → Bool
is_bang (Word name Unquoted) = same_bytes name (codes "!")
is_bang _ = false

-- tokens without the newlines in front
abbrev pub fresh : List Token → List Token
fresh [] = []
fresh (t ∷ ts) = if is_newline_token t then fresh ts else t ∷ ts

-- the word that is wanted in front, and what follows it
abbrev pub name_of : List Token → Option (List ℕ × List Token)
name_of (Word name look ∷ ts) = Some (name, ts)
name_of _ = None

-- the redirection that is wanted in front, and what follows it
abbrev pub redirection_of : List Token → Option (Redirection × List Token)
redirection_of (Operator (operators.Redirection o) ∷ ts) = Some (o, ts)
redirection_of _ = None

abbrev pub member_before : {A : Type 0} → A → Option (List Token) → Option (A × List Token)
member_before a ts = ts >>= λ (ts : List Token). Some (a, ts)
