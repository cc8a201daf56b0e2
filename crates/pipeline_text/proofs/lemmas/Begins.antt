-- The first token of a command, and the commands of a pipeline.
use Rattle.std.proofs.Common.{◌≡◌, ℕ, Bool, true, false, List, [], ◌∷◌, ◌++◌, Option, Some, None}
use Rattle.std.proofs.Common.{inl, inr, refl, sym, ap, ◌∙◌, append_assoc}
use Rattle.pipeline_text.specs.declared.token.Look.{Look}
use Rattle.pipeline_text.specs.declared.token.Look.TheVariants.{Unquoted, Assignment, PartlyQuoted}
use Rattle.pipeline_text.specs.declared.token.Control.{Control}
use Rattle.pipeline_text.specs.declared.token.Control.TheVariants.{Pipe, Background, Semicolon}
use Rattle.pipeline_text.specs.declared.token.Control.TheVariants.{Newline}
use Rattle.pipeline_text.specs.declared.token.Operator.TheVariants as operators
use Rattle.pipeline_text.specs.declared.token.Token.{Token}
use Rattle.pipeline_text.specs.declared.token.Token.TheVariants.{Word, Number, Operator}
use Rattle.pipeline_text.specs.declared.command.Expected.{Expected}
use Rattle.pipeline_text.specs.declared.command.Expected.TheVariants as expected
use Rattle.pipeline_text.specs.SimpleCommands.{SimpleCommand}
use Rattle.pipeline_text.specs.declared.script.Cmd.{Cmd}
use Rattle.pipeline_text.specs.declared.script.Pipeline.{Pipeline}
use Rattle.command_words.specs.Texts.{◌>>=◌}
use Rattle.pipeline_text.specs.Tokens.{with_token}
use Rattle.pipeline_text.specs.Grammar.{Commands, commands, first_with, word_where, takes_word}
use Rattle.pipeline_text.specs.Grammar.{if_utility, nothing, expected_after, pipelines}
use Rattle.pipeline_text.specs.Grammar.{with_pipeline, piped_into}
use Rattle.pipeline_text.specs.inner.Lexemes.{token_before}
use Rattle.pipeline_text.specs.inner.Takes.{control_of, is_newline_token, is_bang, is_pipe, fresh}
use Rattle.pipeline_text.proofs.lemmas.Moved.{cases}
use Rattle.pipeline_text.specs.inner.Parses.{in_front, commands_behind, commands_in, command_before}
use Rattle.pipeline_text.specs.inner.Parses.{is_begin, negates_at, joins_on, pipeline_goes}

-- if nothing was read of a command, all of it is to come
in_front_nothing : (cs : Commands) → first_with if_utility (in_front nothing cs)
    ≡ first_with if_utility cs
in_front_nothing None = refl
in_front_nothing (Some []) = refl
in_front_nothing (Some (c ∷ cs)) = refl

word_begins : (name : List ℕ) (look : Look) (cs : Commands) → is_bang (Word name look) ≡ false
    → first_with (word_where expected.Pipeline name look) cs ≡ first_with (takes_word name look) cs
word_begins name look None h = refl
word_begins name look (Some []) h = refl
word_begins name Unquoted (Some (c ∷ cs)) h = rw h refl
word_begins name Assignment (Some (c ∷ cs)) h = refl
word_begins name PartlyQuoted (Some (c ∷ cs)) h = refl

list_begins : (place : Expected) (t : Token) (ts : List Token) → is_begin place ≡ true
    → None ≡ control_of t → false ≡ negates_at place t
    → commands place (t ∷ ts) ≡ first_with if_utility (commands expected.Rest (t ∷ ts))
list_begins expected.Rest t ts h k g = absurd cc
list_begins expected.Pipeline (Word name look) ts h k g =
    ap (first_with if_utility) (word_begins name look (commands expected.Rest ts) (sym g))
list_begins expected.Command (Word name look) ts h k g = refl
list_begins expected.Pipeline (Number n) [] h k g = refl
list_begins expected.Pipeline (Number n) (Word m look ∷ ts) h k g = refl
list_begins expected.Pipeline (Number n) (Number m ∷ ts) h k g = refl
list_begins expected.Pipeline (Number n) (Operator (operators.Control o) ∷ ts) h k g = refl
list_begins expected.Pipeline (Number n) (Operator (operators.Redirection o) ∷ []) h k g = refl
list_begins expected.Pipeline (Number n) (Operator (operators.Redirection o) ∷ Word name look ∷ ts)
    h k g = refl
list_begins expected.Pipeline (Number n) (Operator (operators.Redirection o) ∷ Number m ∷ ts) h k
    g = refl
list_begins expected.Pipeline (Number n) (Operator (operators.Redirection o) ∷ Operator p ∷ ts) h k
    g = refl
list_begins expected.Command (Number n) [] h k g = refl
list_begins expected.Command (Number n) (Word m look ∷ ts) h k g = refl
list_begins expected.Command (Number n) (Number m ∷ ts) h k g = refl
list_begins expected.Command (Number n) (Operator (operators.Control o) ∷ ts) h k g = refl
list_begins expected.Command (Number n) (Operator (operators.Redirection o) ∷ []) h k g = refl
list_begins expected.Command (Number n) (Operator (operators.Redirection o) ∷ Word name look ∷ ts) h
    k g = refl
list_begins expected.Command (Number n) (Operator (operators.Redirection o) ∷ Number m ∷ ts) h k g =
    refl
list_begins expected.Command (Number n) (Operator (operators.Redirection o) ∷ Operator p ∷ ts) h k
    g = refl
list_begins expected.Pipeline (Operator (operators.Redirection o)) [] h k g = refl
list_begins expected.Pipeline (Operator (operators.Redirection o)) (Word name look ∷ ts) h k g =
    refl
list_begins expected.Pipeline (Operator (operators.Redirection o)) (Number m ∷ ts) h k g = refl
list_begins expected.Pipeline (Operator (operators.Redirection o)) (Operator p ∷ ts) h k g = refl
list_begins expected.Command (Operator (operators.Redirection o)) [] h k g = refl
list_begins expected.Command (Operator (operators.Redirection o)) (Word name look ∷ ts) h k g = refl
list_begins expected.Command (Operator (operators.Redirection o)) (Number m ∷ ts) h k g = refl
list_begins expected.Command (Operator (operators.Redirection o)) (Operator p ∷ ts) h k g = refl
list_begins expected.Pipeline (Operator (operators.Control o)) ts h k g = absurd cc
list_begins expected.Command (Operator (operators.Control o)) ts h k g = absurd cc

-- a command begins with a token that does not negate
pub begins : (place : Expected) (t : Token) (ts : Option (List Token)) → is_begin place ≡ true
    → None ≡ control_of t → false ≡ negates_at place t
    → commands_in place (with_token t ts) ≡ commands_behind nothing (with_token t ts)
begins place t None h k g = refl
begins place t (Some ts) h k g = list_begins place t ts h k g
    ∙ sym (in_front_nothing (commands expected.Rest (t ∷ ts)))

-- no command begins with a control operator that is no newline
pub control_begins : (place : Expected) (o : Control) (ts : List Token) → is_begin place ≡ true
    → is_newline_token (Operator (operators.Control o)) ≡ false
    → commands place (Operator (operators.Control o) ∷ ts) ≡ None
control_begins expected.Rest o ts h k = absurd cc
control_begins expected.Pipeline Pipe ts h k = refl
control_begins expected.Pipeline Background ts h k = refl
control_begins expected.Pipeline Semicolon ts h k = refl
control_begins expected.Pipeline Newline ts h k = absurd cc
control_begins expected.Command Pipe ts h k = refl
control_begins expected.Command Background ts h k = refl
control_begins expected.Command Semicolon ts h k = refl
control_begins expected.Command Newline ts h k = absurd cc

-- ---- newlines

newline_skipped : (place : Expected) (t : Token) (ts : List Token) → is_begin place ≡ true
    → is_newline_token t ≡ true → commands place (t ∷ ts) ≡ commands place ts
newline_skipped expected.Rest t ts h k = absurd cc
newline_skipped place (Word name look) ts h k = absurd cc
newline_skipped place (Number n) ts h k = absurd cc
newline_skipped place (Operator (operators.Redirection o)) ts h k = absurd cc
newline_skipped place (Operator (operators.Control Pipe)) ts h k = absurd cc
newline_skipped place (Operator (operators.Control Background)) ts h k = absurd cc
newline_skipped place (Operator (operators.Control Semicolon)) ts h k = absurd cc
newline_skipped expected.Pipeline (Operator (operators.Control Newline)) ts h k = refl
newline_skipped expected.Command (Operator (operators.Control Newline)) ts h k = refl

fresh_list : (place : Expected) (ts : List Token) → is_begin place ≡ true
    → commands place ts ≡ commands place (fresh ts)
fresh_list place [] h = refl
fresh_list place (t ∷ ts) h = elim (cases (is_newline_token t)) [
  | inl e ↦ rw e (newline_skipped place t ts h e ∙ fresh_list place ts h)
  | inr e ↦ rw e refl
]

-- newlines are allowed before a command
pub fresh_commands : (place : Expected) (ts : Option (List Token)) → is_begin place ≡ true
    → commands_in place ts ≡ commands_in place (ts >>= λ (ts : List Token). Some (fresh ts))
fresh_commands place None h = refl
fresh_commands place (Some ts) h = fresh_list place ts h

-- ---- pipelines

pipe_ends : (c : SimpleCommand) (ps : Option (List Pipeline))
    → piped_into c ps ≡ joins_on c.negated (c.cmd ∷ []) Pipe ps
pipe_ends c None = refl
pipe_ends c (Some []) = refl
pipe_ends c (Some (p ∷ ps)) = refl

ends_so : (c : SimpleCommand) (o : Control) (cs : Commands)
    → ((cs >>= λ (cs : List (SimpleCommand × Control)). Some ((c, o) ∷ cs)) >>= pipelines)
    ≡ joins_on c.negated (c.cmd ∷ []) o (cs >>= pipelines)
ends_so c Pipe None = refl
ends_so c Background None = refl
ends_so c Semicolon None = refl
ends_so c Newline None = refl
ends_so c Pipe (Some cs) = pipe_ends c (pipelines cs)
ends_so c Background (Some cs) = refl
ends_so c Semicolon (Some cs) = refl
ends_so c Newline (Some cs) = refl

pipe_goes : (n : Bool) (before : List Cmd) (c : SimpleCommand) (ps : Option (List Pipeline))
    → joins_on n before Pipe (piped_into c ps) ≡ joins_on n (before ++ c.cmd ∷ []) Pipe ps
pipe_goes n before c None = refl
pipe_goes n before c (Some []) = refl
pipe_goes n before c (Some (p ∷ ps)) =
    ap
    (λ (x : List Cmd). Some (record { negated = n; background = p.background; commands = x } ∷ ps))
    (sym (append_assoc before (c.cmd ∷ []) p.commands))

last_goes : (n : Bool) (before : List Cmd) (c : SimpleCommand) (b : Bool)
    (ps : Option (List Pipeline))
    → joins_on n before Pipe
    (with_pipeline (record { negated = c.negated; background = b; commands = c.cmd ∷ [] }) ps)
    ≡ with_pipeline (record { negated = n; background = b; commands = before ++ c.cmd ∷ [] }) ps
last_goes n before c b None = refl
last_goes n before c b (Some ps) = refl

goes_so : (n : Bool) (before : List Cmd) (c : SimpleCommand) (o : Control) (cs : Commands)
    → joins_on n before Pipe
    ((cs >>= λ (cs : List (SimpleCommand × Control)). Some ((c, o) ∷ cs)) >>= pipelines)
    ≡ joins_on n (before ++ c.cmd ∷ []) o (cs >>= pipelines)
goes_so n before c Pipe None = refl
goes_so n before c Background None = refl
goes_so n before c Semicolon None = refl
goes_so n before c Newline None = refl
goes_so n before c Pipe (Some cs) = pipe_goes n before c (pipelines cs)
goes_so n before c Background (Some cs) = last_goes n before c true (pipelines cs)
goes_so n before c Semicolon (Some cs) = last_goes n before c false (pipelines cs)
goes_so n before c Newline (Some cs) = last_goes n before c false (pipelines cs)

pub pipeline_begins : (c : SimpleCommand) (o : Control) (n b : Bool) (cs : List Cmd)
    (ts : Option (List Token)) → n ≡ c.negated → cs ≡ c.cmd ∷ []
    → (command_before (c, o) ts >>= pipelines) ≡ pipeline_goes
    (record { negated = n; background = b; commands = cs }) o ts
pipeline_begins c o n b cs ts h e =
    let ps = (ts >>= commands (expected_after o)) >>= pipelines in
    ends_so c o (ts >>= commands (expected_after o))
    ∙ ap (λ (x : List Cmd). joins_on c.negated x o ps) (sym e)
    ∙ ap (λ (m : Bool). joins_on m cs o ps) (sym h)

pub pipeline_more : (p : Pipeline) (c : SimpleCommand) (o : Control) (b : Bool) (cs : List Cmd)
    (ts : Option (List Token)) → cs ≡ p.commands ++ c.cmd ∷ []
    → joins_on p.negated p.commands Pipe (command_before (c, o) ts >>= pipelines)
    ≡ pipeline_goes (record { negated = p.negated; background = b; commands = cs }) o ts
pipeline_more p c o b cs ts e = goes_so p.negated p.commands c o
    (ts >>= commands (expected_after o))
    ∙ ap (λ (x : List Cmd). joins_on p.negated x o
    ((ts >>= commands (expected_after o)) >>= pipelines)) (sym e)

-- ---- the token that was found behind newlines

pub found : (place : Expected) (t : Token) (u : Option Token) (ts new : Option (List Token))
    → is_begin place ≡ true → (ts >>= λ (ts : List Token). Some (fresh ts)) ≡ token_before u new
    → u ≡ Some t
    → commands_in place ts ≡ commands_in place (with_token t new)
found place t u ts new h e k = fresh_commands place ts h
    ∙ ap (commands_in place) (e ∙ ap (λ (u : Option Token). token_before u new) k)

pub found_none : (place : Expected) (u : Option Token) (ts new : Option (List Token))
    → is_begin place ≡ true → (ts >>= λ (ts : List Token). Some (fresh ts)) ≡ token_before u new
    → u ≡ None
    → commands_in place ts ≡ commands_in place (Some [])
found_none place u ts new h e k = fresh_commands place ts h
    ∙ ap (commands_in place) (e ∙ ap (λ (u : Option Token). token_before u new) k)

behind_pipe : (p : Pipeline) (o : Control) (ts : Option (List Token)) → true ≡ is_pipe o
    → pipeline_goes p o ts ≡ joins_on p.negated p.commands Pipe
    (commands_in expected.Command ts >>= pipelines)
behind_pipe p Pipe ts h = refl
behind_pipe p Background ts h = absurd cc
behind_pipe p Semicolon ts h = absurd cc
behind_pipe p Newline ts h = absurd cc

pub pipe_at_end : (p : Pipeline) (o : Control) (u : Option Token) (ts new : Option (List Token))
    → true ≡ is_pipe o → (ts >>= λ (ts : List Token). Some (fresh ts)) ≡ token_before u new
    → u ≡ None → pipeline_goes p o ts ≡ None
pipe_at_end p o u ts new h e k = behind_pipe p o ts h
    ∙ ap (λ (cs : Commands). joins_on p.negated p.commands Pipe (cs >>= pipelines))
    (found_none expected.Command u ts new refl e k)

pub pipe_at_token : (p : Pipeline) (o : Control) (t : Token) (u : Option Token)
    (ts new : Option (List Token)) → true ≡ is_pipe o
    → (ts >>= λ (ts : List Token). Some (fresh ts)) ≡ token_before u new → u ≡ Some t
    → pipeline_goes p o ts ≡ joins_on p.negated p.commands Pipe
    (commands_in expected.Command (with_token t new) >>= pipelines)
pipe_at_token p o t u ts new h e k = behind_pipe p o ts h
    ∙ ap (λ (cs : Commands). joins_on p.negated p.commands Pipe (cs >>= pipelines))
    (found expected.Command t u ts new refl e k)
