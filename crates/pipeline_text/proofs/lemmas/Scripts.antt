-- The pipelines of a script, one by one.
use Rattle.std.proofs.Common.{◌≡◌, ◌≤◌, ℕ, Bool, true, false, cond, List, [], ◌∷◌, ◌++◌, length}
use Rattle.std.proofs.Common.{Option, Some, None, Ok, refl, sym, ap, ◌∙◌, append_assoc, arith}
use Rattle.std.specs.Prelude.{nat_lt}
use Rattle.pipeline_text.specs.declared.token.Control.{Control}
use Rattle.pipeline_text.specs.declared.token.Control.TheVariants.{Pipe, Background, Semicolon}
use Rattle.pipeline_text.specs.declared.token.Control.TheVariants.{Newline}
use Rattle.pipeline_text.specs.declared.token.Operator.TheVariants as operators
use Rattle.pipeline_text.specs.declared.token.Token.{Token}
use Rattle.pipeline_text.specs.declared.token.Token.TheVariants.{Word, Number, Operator}
use Rattle.pipeline_text.specs.declared.command.Expected.TheVariants as expected
use Rattle.pipeline_text.specs.SimpleCommands.{SimpleCommand}
use Rattle.pipeline_text.specs.declared.script.Pipeline.{Pipeline}
use Rattle.pipeline_text.specs.declared.script.Script.{Script}
use Rattle.command_words.specs.Texts.{◌>>=◌}
use Rattle.pipeline_text.specs.Tokens.{with_token}
use Rattle.pipeline_text.specs.Grammar.{Commands, commands, first_with, word_where, if_utility}
use Rattle.pipeline_text.specs.Grammar.{redirected, redirected_as, pipelines, piped_into, alone}
use Rattle.pipeline_text.specs.Grammar.{with_pipeline, begun_with, script, body, without_fifos}
use Rattle.pipeline_text.specs.Grammar.{with_fifos, fifo_names, makes_fifos, parsed, script_of}
use Rattle.pipeline_text.specs.inner.Lexemes.{token_before, tokens_of}
use Rattle.pipeline_text.specs.inner.Takes.{is_newline_token, fresh}
use Rattle.pipeline_text.specs.inner.Parses.{IsFresh, commands_in, pipelines_of, pipeline_before}
use Rattle.pipeline_text.specs.inner.Parses.{some_left, nothing_more, with_pipelines, body_behind}
use Rattle.pipeline_text.specs.inner.Parses.{script_behind, script_of_body}
use Rattle.pipeline_text.proofs.lemmas.Begins.{found, found_none, control_begins}

-- ---- one pipeline

some_with : (p : Pipeline) (ps : Option (List Pipeline))
    → some_left (with_pipeline p ps) ≡ with_pipeline p ps
some_with p None = refl
some_with p (Some ps) = refl

pub some_before : (p : Pipeline) (u : Option Pipeline) (old new : Option (List Pipeline))
    → old ≡ pipeline_before u new → u ≡ Some p → some_left old ≡ with_pipeline p new
some_before p u old new e k =
    ap some_left (e ∙ ap (λ (u : Option Pipeline). pipeline_before u new) k) ∙ some_with p new

-- ---- the end

abbrev ends : Commands → Option (Unit {0})
ends cs = nothing_more (cs >>= pipelines)

piped_goes : (c : SimpleCommand) (ps : Option (List Pipeline))
    → nothing_more (piped_into c ps) ≡ None
piped_goes c None = refl
piped_goes c (Some []) = refl
piped_goes c (Some (p ∷ ps)) = refl

pipeline_goes_on : (p : Pipeline) (ps : Option (List Pipeline))
    → nothing_more (with_pipeline p ps) ≡ None
pipeline_goes_on p None = refl
pipeline_goes_on p (Some ps) = refl

command_goes : (o : Option SimpleCommand) (j : Control) (cs : List (SimpleCommand × Control))
    → ends (o >>= λ (d : SimpleCommand). Some ((d, j) ∷ cs)) ≡ None
command_goes None j cs = refl
command_goes (Some d) Pipe cs = piped_goes d (pipelines cs)
command_goes (Some d) Background cs = pipeline_goes_on (alone d Background) (pipelines cs)
command_goes (Some d) Semicolon cs = pipeline_goes_on (alone d Semicolon) (pipelines cs)
command_goes (Some d) Newline cs = pipeline_goes_on (alone d Newline) (pipelines cs)

first_goes : (f : SimpleCommand → Option SimpleCommand) (cs : Commands)
    → ends (first_with f cs) ≡ None
first_goes f None = refl
first_goes f (Some []) = refl
first_goes f (Some (c ∷ cs)) = command_goes (f c.0) c.1 cs

token_goes : (t : Token) (ts : List Token) → is_newline_token t ≡ false
    → ends (commands expected.Pipeline (t ∷ ts)) ≡ None
token_goes (Word name look) ts h = first_goes if_utility
    (first_with (word_where expected.Pipeline name look) (commands expected.Rest ts))
token_goes (Number n) [] h = refl
token_goes (Number n) (Word m look ∷ ts) h = refl
token_goes (Number n) (Number m ∷ ts) h = refl
token_goes (Number n) (Operator (operators.Control o) ∷ ts) h = refl
token_goes (Number n) (Operator (operators.Redirection o) ∷ []) h = refl
token_goes (Number n) (Operator (operators.Redirection o) ∷ Word name look ∷ ts) h =
    first_goes if_utility (first_with (redirected_as n o name) (commands expected.Rest ts))
token_goes (Number n) (Operator (operators.Redirection o) ∷ Number m ∷ ts) h = refl
token_goes (Number n) (Operator (operators.Redirection o) ∷ Operator p ∷ ts) h = refl
token_goes (Operator (operators.Redirection o)) [] h = refl
token_goes (Operator (operators.Redirection o)) (Word name look ∷ ts) h =
    first_goes if_utility (first_with (redirected o name) (commands expected.Rest ts))
token_goes (Operator (operators.Redirection o)) (Number m ∷ ts) h = refl
token_goes (Operator (operators.Redirection o)) (Operator p ∷ ts) h = refl
token_goes (Operator (operators.Control o)) ts h =
    ap ends (control_begins expected.Pipeline o ts refl h)

tokens_go : (t : Token) (ts : Option (List Token)) → is_newline_token t ≡ false
    → ends (commands_in expected.Pipeline (with_token t ts)) ≡ None
tokens_go t None h = refl
tokens_go t (Some ts) h = token_goes t ts h

-- a token that is no newline begins one more pipeline
pub goes_on_behind : (t : Token) (u : Option Token) (ts new : Option (List Token))
    → (ts >>= λ (ts : List Token). Some (fresh ts)) ≡ token_before u new → u ≡ Some t
    → is_newline_token t ≡ false → nothing_more (pipelines_of ts) ≡ None
goes_on_behind t u ts new e k h = ap ends (found expected.Pipeline t u ts new refl e k)
    ∙ tokens_go t new h

pub ends_behind : (u : Option Token) (ts new : Option (List Token))
    → (ts >>= λ (ts : List Token). Some (fresh ts)) ≡ token_before u new → u ≡ None
    → nothing_more (pipelines_of ts) ≡ Some tt
ends_behind u ts new e k = ap ends (found_none expected.Pipeline u ts new refl e k)

pub fresh_is : (t : Token) (u : Option Token) (old new : ℕ) → IsFresh (Ok u) old new → u ≡ Some t
    → is_newline_token t ≡ false
fresh_is t None old new h e = absurd cc
fresh_is t (Some v) old new h e = let same : v ≡ t = cc in ap is_newline_token (sym same) ∙ h.0

-- ---- the body

body_some : (ps : Option (List Pipeline)) → (ps >>= body) ≡ (some_left ps >>= body)
body_some None = refl
body_some (Some []) = refl
body_some (Some (p ∷ ps)) = refl

body_first : (p : Pipeline) (ps : Option (List Pipeline)) → p.background ≡ true
    → body_behind p ps ≡ with_pipeline p (ps >>= body)
body_first p None h = refl
body_first p (Some ps) h = rw h refl

front_more : (front : List Pipeline) (p : Pipeline) (ps : Option (List Pipeline))
    → with_pipelines front (with_pipeline p ps) ≡ with_pipelines (front ++ p ∷ []) ps
front_more front p None = refl
front_more front p (Some ps) = ap (λ (x : List Pipeline). Some x)
    (sym (append_assoc front (p ∷ []) ps))

-- a pipeline in the background was read, and the one after it
pub body_more : (front front' : List Pipeline) (p q : Pipeline) (old new : Option (List Pipeline))
    → p.background ≡ true → some_left old ≡ with_pipeline q new → front' ≡ front ++ p ∷ []
    → with_pipelines front' (body_behind q new) ≡ with_pipelines front (body_behind p old)
body_more front front' p q old new h e k =
    ap (λ (x : List Pipeline). with_pipelines x (body_behind q new)) k
    ∙ sym (front_more front p (body_behind q new))
    ∙ ap (λ (x : Option (List Pipeline)). with_pipelines front (with_pipeline p x))
    (sym (body_some old ∙ ap (λ (x : Option (List Pipeline)). x >>= body) e))
    ∙ ap (with_pipelines front) (sym (body_first p old h))

pub body_broken : (front : List Pipeline) (p : Pipeline) (old : Option (List Pipeline))
    → p.background ≡ true → some_left old ≡ None → with_pipelines front (body_behind p old) ≡ None
body_broken front p old h e = ap (with_pipelines front) (body_first p old h
    ∙ ap (with_pipeline p) (body_some old ∙ ap (λ (x : Option (List Pipeline)). x >>= body) e))

-- a pipeline in the foreground was read
pub body_ends : (front front' : List Pipeline) (p : Pipeline) (old : Option (List Pipeline))
    → p.background ≡ false → nothing_more old ≡ Some tt → front' ≡ front ++ p ∷ []
    → with_pipelines front (body_behind p old) ≡ Some front'
body_ends front front' p None h e k = absurd cc
body_ends front front' p (Some []) h e k =
    let one : body (p ∷ []) ≡ Some (p ∷ []) =
    ap (λ (b : Bool). cond b (with_pipeline p None) (Some (p ∷ []))) h in
    ap (with_pipelines front) one ∙ ap (λ (x : List Pipeline). Some x) (sym k)
body_ends front front' p (Some (q ∷ qs)) h e k = absurd cc

pub body_refused : (front : List Pipeline) (p : Pipeline) (old : Option (List Pipeline))
    → p.background ≡ false → nothing_more old ≡ None
    → with_pipelines front (body_behind p old) ≡ None
body_refused front p None h e = refl
body_refused front p (Some []) h e = absurd cc
body_refused front p (Some (q ∷ qs)) h e = rw h refl

-- ---- the names

script_some : (ps : Option (List Pipeline)) → (ps >>= script) ≡ (some_left ps >>= script)
script_some None = refl
script_some (Some []) = refl
script_some (Some (p ∷ ps)) = refl

read_first : (names : List (List ℕ)) (p : Pipeline) (old new : Option (List Pipeline))
    → some_left old ≡ with_pipeline p new
    → script_behind names old ≡ with_fifos names (with_pipeline p new >>= script)
read_first names p old new e = ap (with_fifos names) (script_some old
    ∙ ap (λ (x : Option (List Pipeline)). x >>= script) e)

pub script_broken : (names : List (List ℕ)) (old : Option (List Pipeline)) → some_left old ≡ None
    → script_behind names old ≡ None
script_broken names old e = ap (with_fifos names) (script_some old
    ∙ ap (λ (x : Option (List Pipeline)). x >>= script) e)

no_names : (p : Pipeline) (new : Option (List Pipeline)) → None ≡ fifo_names p
    → (with_pipeline p new >>= script) ≡ without_fifos (body_behind p new)
no_names p None h = refl
no_names p (Some ps) h =
    ap (λ (o : Option (List (List ℕ))). begun_with p o (body (p ∷ ps)) (script ps)) (sym h)

-- a pipeline was read that does not begin with `mkfifo`
pub names_end : (names : List (List ℕ)) (p : Pipeline) (old new : Option (List Pipeline))
    → None ≡ fifo_names p → some_left old ≡ with_pipeline p new
    → script_behind names old ≡ script_of_body names p new
names_end names p old new h e = read_first names p old new e
    ∙ ap (with_fifos names) (no_names p new h)

bad_names : (p : Pipeline) (more : List (List ℕ)) (new : Option (List Pipeline))
    → Some more ≡ fifo_names p → false ≡ makes_fifos p more
    → (with_pipeline p new >>= script) ≡ None
bad_names p more None h k = refl
bad_names p more (Some ps) h k =
    ap (λ (o : Option (List (List ℕ))). begun_with p o (body (p ∷ ps)) (script ps)) (sym h)
    ∙ ap (λ (b : Bool). cond b (with_fifos more (script ps)) None) (sym k)

-- one was read that begins with `mkfifo`, and does more than that
pub names_refused : (names more : List (List ℕ)) (p : Pipeline) (old new : Option (List Pipeline))
    → Some more ≡ fifo_names p → false ≡ makes_fifos p more → some_left old ≡ with_pipeline p new
    → script_behind names old ≡ None
names_refused names more p old new h k e = read_first names p old new e
    ∙ ap (with_fifos names) (bad_names p more new h k)

good_names : (p : Pipeline) (more : List (List ℕ)) (new : Option (List Pipeline))
    → Some more ≡ fifo_names p → true ≡ makes_fifos p more
    → (with_pipeline p new >>= script) ≡ with_fifos more (new >>= script)
good_names p more None h k = refl
good_names p more (Some ps) h k =
    ap (λ (o : Option (List (List ℕ))). begun_with p o (body (p ∷ ps)) (script ps)) (sym h)
    ∙ ap (λ (b : Bool). cond b (with_fifos more (script ps)) None) (sym k)

names_twice : (a b : List (List ℕ)) (s : Option Script)
    → with_fifos a (with_fifos b s) ≡ with_fifos (a ++ b) s
names_twice a b None = refl
names_twice a b (Some s) =
    ap (λ (x : List (List ℕ)). Some (record { fifos = x; pipelines = s.pipelines }))
    (sym (append_assoc a b s.fifos))

same_some : {A : Type 0} (a b : A) (o : Option A) → Some a ≡ o → o ≡ Some b → a ≡ b
same_some a b o h k = let e : Some a ≡ Some b = h ∙ k in cc

-- a `mkfifo` command was read
pub names_more : (names names' found taken : List (List ℕ)) (p : Pipeline)
    (old new : Option (List Pipeline)) → Some found ≡ fifo_names p → true ≡ makes_fifos p found
    → fifo_names p ≡ Some taken → names' ≡ names ++ taken
    → some_left old ≡ with_pipeline p new → script_behind names' new ≡ script_behind names old
names_more names names' found taken p old new h k t n e =
    ap (λ (x : List (List ℕ)). script_behind x new) (n
    ∙ ap (λ (x : List (List ℕ)). names ++ x) (sym (same_some found taken (fifo_names p) h t)))
    ∙ sym (names_twice names found (new >>= script))
    ∙ ap (with_fifos names) (sym (good_names p found new h k))
    ∙ sym (read_first names p old new e)

-- ---- the text

no_fifos : (s : Option Script) → with_fifos [] s ≡ s
no_fifos None = refl
no_fifos (Some s) = refl

parsed_so : (ts : Option (List Token)) → (ts >>= parsed) ≡ (pipelines_of ts >>= script)
parsed_so None = refl
parsed_so (Some ts) = refl

short_enough : (n : ℕ) → n ≤ 65536 → nat_lt 65536 n ≡ false
short_enough n h = grind (arith)

pub script_is : (text : List ℕ) (names : List (List ℕ)) (ts : Option (List Token))
    → length text ≤ 65536 → ts ≡ tokens_of text → names ≡ []
    → script_of text ≡ script_behind names (pipelines_of ts)
script_is text names ts short e k =
    rw (short_enough (length text) short) (ap (λ (x : Option (List Token)). x >>= parsed) (sym e)
    ∙ parsed_so ts ∙ sym (no_fifos (pipelines_of ts >>= script)))
    ∙ ap (λ (x : List (List ℕ)). script_behind x (pipelines_of ts)) (sym k)
