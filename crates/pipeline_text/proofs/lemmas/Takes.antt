-- The tokens of a command, one by one.
use Rattle.std.proofs.Common.{◌≡◌, ℕ, true, List, [], ◌∷◌, Option, Some, None, refl, sym, ap, ◌∙◌}
use Rattle.pipeline_text.specs.declared.token.Redirection.{Redirection}
use Rattle.pipeline_text.specs.declared.token.Operator.TheVariants as operators
use Rattle.pipeline_text.specs.declared.token.Token.{Token}
use Rattle.pipeline_text.specs.declared.token.Token.TheVariants.{Word, Number, Operator}
use Rattle.pipeline_text.specs.declared.command.Expected.TheVariants as expected
use Rattle.pipeline_text.specs.SimpleCommands.{SimpleCommand}
use Rattle.pipeline_text.specs.Tokens.{with_token}
use Rattle.pipeline_text.specs.Grammar.{Commands, commands, first_with, redirected, redirected_as}
use Rattle.pipeline_text.specs.Grammar.{descriptor, if_utility}
use Rattle.command_words.specs.Texts.{same_bytes}
use Rattle.pipeline_text.specs.inner.Lexemes.{token_before}
use Rattle.pipeline_text.specs.inner.Takes.{redirection_in}
use Rattle.pipeline_text.specs.inner.Parses.{in_front, commands_behind, commands_at}
use Rattle.pipeline_text.specs.inner.Parses.{commands_at_number}

-- a redirection's operator in front
pub at_redirection : (a : SimpleCommand) (o : Redirection) (ts : Option (List Token))
    → commands_behind a (with_token (Operator (operators.Redirection o)) ts) ≡ commands_at a o ts
at_redirection a o None = refl
at_redirection a o (Some []) = refl
at_redirection a o (Some (Word name look ∷ ts)) = refl
at_redirection a o (Some (Number n ∷ ts)) = refl
at_redirection a o (Some (Operator p ∷ ts)) = refl

pub redirection_in_front : (a : SimpleCommand) (t : Token) (o : Redirection)
    (ts : Option (List Token)) → t ≡ Operator (operators.Redirection o)
    → commands_behind a (with_token t ts) ≡ commands_at a o ts
redirection_in_front a t o ts e = ap (λ (t : Token). commands_behind a (with_token t ts)) e
    ∙ at_redirection a o ts

as_redirected : (n name : List ℕ) (o : Redirection) (cs : Commands)
    → true ≡ same_bytes n (descriptor o) → first_with (redirected_as n o name) cs
    ≡ first_with (redirected o name) cs
as_redirected n name o None h = refl
as_redirected n name o (Some []) h = refl
as_redirected n name o (Some (c ∷ cs)) h = rw (← h) refl

numbered : (a : SimpleCommand) (n : List ℕ) (o : Redirection) (ts : Option (List Token))
    → true ≡ same_bytes n (descriptor o)
    → commands_at_number a n (with_token (Operator (operators.Redirection o)) ts)
    ≡ commands_at a o ts
numbered a n o None h = refl
numbered a n o (Some []) h = refl
numbered a n o (Some (Word name look ∷ ts)) h =
    ap (λ (cs : Commands). first_with if_utility (in_front a cs))
    (as_redirected n name o (commands expected.Rest ts) h)
numbered a n o (Some (Number m ∷ ts)) h = refl
numbered a n o (Some (Operator p ∷ ts)) h = refl

-- a descriptor's number and its redirection's operator in front
pub number_in_front : (a : SimpleCommand) (n : List ℕ) (o : Redirection) (t : Option Token)
    (old new : Option (List Token)) → old ≡ token_before t new → Some o ≡ redirection_in t
    → true ≡ same_bytes n (descriptor o)
    → commands_at_number a n old ≡ commands_at a o new
number_in_front a n o None old new e k h = absurd cc
number_in_front a n o (Some (Word name look)) old new e k h = absurd cc
number_in_front a n o (Some (Number m)) old new e k h = absurd cc
number_in_front a n o (Some (Operator (operators.Control p))) old new e k h = absurd cc
number_in_front a n o (Some (Operator (operators.Redirection p))) old new e k h =
    let same : o ≡ p = cc in
    ap (commands_at_number a n) e
    ∙ ap (λ (p : Redirection). commands_at_number a n
    (with_token (Operator (operators.Redirection p)) new)) (sym same) ∙ numbered a n o new h
