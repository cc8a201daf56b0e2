-- What a command becomes that takes one more token.
use Rattle.std.proofs.Common.{◌≡◌, ◌≢◌, ℕ, Bool, true, false, List, [], ◌∷◌, ◌++◌, Option, Some}
use Rattle.std.proofs.Common.{None, ◌||◌, refl, sym, ap, ◌∙◌, append_assoc}
use Rattle.std.specs.Prelude.{is_some}
use Rattle.pipeline_text.specs.declared.token.Look.{Look}
use Rattle.pipeline_text.specs.declared.token.Control.{Control}
use Rattle.pipeline_text.specs.declared.token.Redirection.{Redirection}
use Rattle.pipeline_text.specs.declared.token.Redirection.TheVariants.{Input, Output, Append}
use Rattle.pipeline_text.specs.declared.token.Token.{Token}
use Rattle.pipeline_text.specs.declared.command.Expected.TheVariants as expected
use Rattle.pipeline_text.specs.SimpleCommands.{SimpleCommand}
use Rattle.pipeline_text.specs.declared.script.Target.{Target}
use Rattle.command_words.specs.Texts.{◌>>=◌}
use Rattle.pipeline_text.specs.Grammar.{Commands, commands, first_with, takes_word, reads_from}
use Rattle.pipeline_text.specs.Grammar.{writes_to, redirected, if_utility, may_begin}
use Rattle.pipeline_text.specs.inner.Takes.{member_before}
use Rattle.pipeline_text.specs.inner.Additions.{has, with_word, with_first_word, with_redirection}
use Rattle.pipeline_text.specs.inner.Parses.{one_of, in_front, commands_behind, commands_at_word}

-- a command of these parts
abbrev made_of : Bool → Look → List (List ℕ) → Option (List ℕ) → Option Target → SimpleCommand
made_of n l ws s t = record {
  negated = n;
  look = l;
  cmd =
      record { words = ws; source = s; target = t };
}

-- ---- words

later_word : (n : Bool) (l look : Look) (w name : List ℕ) (ws : List (List ℕ)) (s : Option (List ℕ))
    (t : Option Target) (cs : Commands)
    → in_front (made_of n l (w ∷ ws) s t) (first_with (takes_word name look) cs)
    ≡ in_front (made_of n l (w ∷ (ws ++ name ∷ [])) s t) cs
later_word n l look w name ws s t None = refl
later_word n l look w name ws s t (Some []) = refl
later_word n l look w name ws s t (Some (c ∷ cs)) =
    ap (λ (x : List (List ℕ)).
    (one_of s c.0.cmd.source >>= λ (s : Option (List ℕ)). one_of t
    c.0.cmd.target >>= λ (t : Option Target). Some (made_of (n || c.0.negated) l (w ∷ x) s t))
    >>= λ (d : SimpleCommand). Some ((d, c.1) ∷ cs))
    (sym (append_assoc ws (name ∷ []) c.0.cmd.words))

first_word : (n : Bool) (l look : Look) (name : List ℕ) (s : Option (List ℕ)) (t : Option Target)
    (cs : Commands)
    → in_front (made_of n l [] s t) (first_with (takes_word name look) cs)
    ≡ in_front (made_of n look (name ∷ []) s t) cs
first_word n l look name s t None = refl
first_word n l look name s t (Some []) = refl
first_word n l look name s t (Some (c ∷ cs)) = refl

no_utility : (n : Bool) (l : Look) (w : List ℕ) (ws : List (List ℕ)) (o : Option (Option (List ℕ)))
    (p : Option (Option Target)) (j : Control) (cs : List (SimpleCommand × Control))
    → may_begin l w ≡ false
    → first_with if_utility
    ((o >>= λ (s : Option (List ℕ)). p >>= λ (t : Option Target). Some
    (made_of n l (w ∷ ws) s t)) >>= λ (d : SimpleCommand). Some ((d, j) ∷ cs)) ≡ None
no_utility n l w ws None p j cs h = refl
no_utility n l w ws (Some s) None j cs h = refl
no_utility n l w ws (Some s) (Some t) j cs h = rw h refl

-- a command that does not begin well is none, whatever follows
begins_badly : (n : Bool) (l : Look) (w : List ℕ) (ws : List (List ℕ)) (s : Option (List ℕ))
    (t : Option Target) (cs : Commands) → may_begin l w ≡ false
    → first_with if_utility (in_front (made_of n l (w ∷ ws) s t) cs) ≡ None
begins_badly n l w ws s t None h = refl
begins_badly n l w ws s t (Some []) h = refl
begins_badly n l w ws s t (Some (c ∷ cs)) h =
    no_utility (n || c.0.negated) l w (ws ++ c.0.cmd.words) (one_of s c.0.cmd.source)
    (one_of t c.0.cmd.target) c.1 cs h

pub first_taken : (a b : SimpleCommand) (name : List ℕ) (look : Look) (ts : Option (List Token))
    → a.cmd.words ≡ [] → b ≡ with_first_word a name look
    → commands_at_word a name look ts ≡ commands_behind b ts
first_taken a b name look ts e k =
    ap (λ (x : List (List ℕ)). commands_at_word
    (made_of a.negated a.look x a.cmd.source a.cmd.target) name look ts) e
    ∙ ap (first_with if_utility) (first_word a.negated a.look look name a.cmd.source a.cmd.target
    (ts >>= commands expected.Rest))
    ∙ ap (λ (x : List (List ℕ)). commands_behind
    (made_of a.negated look (x ++ name ∷ []) a.cmd.source a.cmd.target) ts) (sym e)
    ∙ ap (λ (c : SimpleCommand). commands_behind c ts) (sym k)

pub first_refused : (a : SimpleCommand) (name : List ℕ) (look : Look) (ts : Option (List Token))
    → a.cmd.words ≡ [] → false ≡ may_begin look name → commands_at_word a name look ts ≡ None
first_refused a name look ts e h =
    first_taken a (with_first_word a name look) name look ts e refl
    ∙ ap (λ (x : List (List ℕ)). commands_behind
    (made_of a.negated look (x ++ name ∷ []) a.cmd.source a.cmd.target) ts) e
    ∙ begins_badly a.negated look name [] a.cmd.source a.cmd.target (ts >>= commands expected.Rest)
    (sym h)

behind_words : (n : Bool) (l look : Look) (name : List ℕ) (ws : List (List ℕ)) (s : Option (List ℕ))
    (t : Option Target) (ts : Option (List Token)) → ws ≢ []
    → commands_at_word (made_of n l ws s t) name look ts
    ≡ commands_behind (made_of n l (ws ++ name ∷ []) s t) ts
behind_words n l look name [] s t ts h = absurd (h refl)
behind_words n l look name (w ∷ ws) s t ts h =
    ap (first_with if_utility) (later_word n l look w name ws s t (ts >>= commands expected.Rest))

pub later_taken : (a b : SimpleCommand) (name : List ℕ) (look : Look) (ts : Option (List Token))
    → a.cmd.words ≢ [] → b ≡ with_word a name
    → commands_at_word a name look ts ≡ commands_behind b ts
later_taken a b name look ts h k =
    behind_words a.negated a.look look name a.cmd.words a.cmd.source a.cmd.target ts h
    ∙ ap (λ (c : SimpleCommand). commands_behind c ts) (sym k)

-- ---- redirections

placed_none : (j : Control) (cs : List (SimpleCommand × Control)) (o : Option (Option (List ℕ)))
    → ((o >>= λ (s : Option (List ℕ)). let n : Option SimpleCommand = None in
    n) >>= λ (d : SimpleCommand). Some ((d, j) ∷ cs)) ≡ None
placed_none j cs None = refl
placed_none j cs (Some s) = refl

source_case : (n : Bool) (l : Look) (ws : List (List ℕ)) (t : Option Target) (name : List ℕ)
    (b : SimpleCommand) (s : Option (List ℕ)) (j : Control) (cs : List (SimpleCommand × Control))
    → in_front (made_of n l ws None t)
    (first_with (reads_from name)
    (Some ((made_of b.negated b.look b.cmd.words s b.cmd.target, j) ∷ cs)))
    ≡ in_front (made_of n l ws (Some name) t)
    (Some ((made_of b.negated b.look b.cmd.words s b.cmd.target, j) ∷ cs))
source_case n l ws t name b None j cs = refl
source_case n l ws t name b (Some x) j cs = refl

source_again : (n : Bool) (l : Look) (ws : List (List ℕ)) (other : List ℕ) (t : Option Target)
    (name : List ℕ) (b : SimpleCommand) (s : Option (List ℕ)) (j : Control)
    (cs : List (SimpleCommand × Control))
    → in_front (made_of n l ws (Some other) t)
    (first_with (reads_from name)
    (Some ((made_of b.negated b.look b.cmd.words s b.cmd.target, j) ∷ cs))) ≡ None
source_again n l ws other t name b None j cs = refl
source_again n l ws other t name b (Some x) j cs = refl

target_case : (n : Bool) (l : Look) (ws : List (List ℕ)) (s : Option (List ℕ)) (name : List ℕ)
    (append : Bool) (b : SimpleCommand) (t : Option Target) (j : Control)
    (cs : List (SimpleCommand × Control))
    → in_front (made_of n l ws s None)
    (first_with (writes_to name append)
    (Some ((made_of b.negated b.look b.cmd.words b.cmd.source t, j) ∷ cs)))
    ≡ in_front (made_of n l ws s (Some (record { name = name; append = append })))
    (Some ((made_of b.negated b.look b.cmd.words b.cmd.source t, j) ∷ cs))
target_case n l ws s name append b None j cs = refl
target_case n l ws s name append b (Some x) j cs = sym (placed_none j cs (one_of s b.cmd.source))

target_again : (n : Bool) (l : Look) (ws : List (List ℕ)) (s : Option (List ℕ)) (other : Target)
    (name : List ℕ) (append : Bool) (b : SimpleCommand) (t : Option Target) (j : Control)
    (cs : List (SimpleCommand × Control))
    → in_front (made_of n l ws s (Some other))
    (first_with (writes_to name append)
    (Some ((made_of b.negated b.look b.cmd.words b.cmd.source t, j) ∷ cs))) ≡ None
target_again n l ws s other name append b None j cs = placed_none j cs (one_of s b.cmd.source)
target_again n l ws s other name append b (Some x) j cs = refl

reads_added : (n : Bool) (l : Look) (ws : List (List ℕ)) (s : Option (List ℕ)) (t : Option Target)
    (name : List ℕ) (cs : Commands) → is_some s ≡ false
    → in_front (made_of n l ws s t) (first_with (reads_from name) cs)
    ≡ in_front (made_of n l ws (Some name) t) cs
reads_added n l ws (Some other) t name cs h = absurd cc
reads_added n l ws None t name None h = refl
reads_added n l ws None t name (Some []) h = refl
reads_added n l ws None t name (Some (c ∷ cs)) h =
    source_case n l ws t name c.0 c.0.cmd.source c.1 cs

writes_added : (n : Bool) (l : Look) (ws : List (List ℕ)) (s : Option (List ℕ)) (t : Option Target)
    (name : List ℕ) (append : Bool) (cs : Commands) → is_some t ≡ false
    → in_front (made_of n l ws s t) (first_with (writes_to name append) cs)
    ≡ in_front (made_of n l ws s (Some (record { name = name; append = append }))) cs
writes_added n l ws s (Some other) name append cs h = absurd cc
writes_added n l ws s None name append None h = refl
writes_added n l ws s None name append (Some []) h = refl
writes_added n l ws s None name append (Some (c ∷ cs)) h =
    target_case n l ws s name append c.0 c.0.cmd.target c.1 cs

reads_again : (n : Bool) (l : Look) (ws : List (List ℕ)) (s : Option (List ℕ)) (t : Option Target)
    (name : List ℕ) (cs : Commands) → is_some s ≡ true
    → in_front (made_of n l ws s t) (first_with (reads_from name) cs) ≡ None
reads_again n l ws None t name cs h = absurd cc
reads_again n l ws (Some other) t name None h = refl
reads_again n l ws (Some other) t name (Some []) h = refl
reads_again n l ws (Some other) t name (Some (c ∷ cs)) h =
    source_again n l ws other t name c.0 c.0.cmd.source c.1 cs

writes_again : (n : Bool) (l : Look) (ws : List (List ℕ)) (s : Option (List ℕ)) (t : Option Target)
    (name : List ℕ) (append : Bool) (cs : Commands) → is_some t ≡ true
    → in_front (made_of n l ws s t) (first_with (writes_to name append) cs) ≡ None
writes_again n l ws s None name append cs h = absurd cc
writes_again n l ws s (Some other) name append None h = refl
writes_again n l ws s (Some other) name append (Some []) h = refl
writes_again n l ws s (Some other) name append (Some (c ∷ cs)) h =
    target_again n l ws s other name append c.0 c.0.cmd.target c.1 cs

redirect_added : (a : SimpleCommand) (o : Redirection) (name : List ℕ) (cs : Commands)
    → has a o ≡ false → in_front a (first_with (redirected o name) cs)
    ≡ in_front (with_redirection a o name) cs
redirect_added a Input name cs h =
    reads_added a.negated a.look a.cmd.words a.cmd.source a.cmd.target name cs h
redirect_added a Output name cs h =
    writes_added a.negated a.look a.cmd.words a.cmd.source a.cmd.target name false cs h
redirect_added a Append name cs h =
    writes_added a.negated a.look a.cmd.words a.cmd.source a.cmd.target name true cs h

redirect_again : (a : SimpleCommand) (o : Redirection) (name : List ℕ) (cs : Commands)
    → has a o ≡ true → in_front a (first_with (redirected o name) cs) ≡ None
redirect_again a Input name cs h =
    reads_again a.negated a.look a.cmd.words a.cmd.source a.cmd.target name cs h
redirect_again a Output name cs h =
    writes_again a.negated a.look a.cmd.words a.cmd.source a.cmd.target name false cs h
redirect_again a Append name cs h =
    writes_again a.negated a.look a.cmd.words a.cmd.source a.cmd.target name true cs h

-- the commands of what follows a redirection's operator
abbrev redirected_by : SimpleCommand → Redirection → Option (List ℕ × List Token) → Commands
redirected_by a o old = first_with if_utility
    (in_front a (old >>= λ (p : List ℕ × List Token). first_with (redirected o p.0)
    (commands expected.Rest p.1)))

taken : (a : SimpleCommand) (o : Redirection) (name : List ℕ) (new : Option (List Token))
    → has a o ≡ false → redirected_by a o (member_before name new)
    ≡ commands_behind (with_redirection a o name) new
taken a o name None h = refl
taken a o name (Some ts) h = ap (first_with if_utility)
    (redirect_added a o name (commands expected.Rest ts) h)

pub redirect_taken : (a b : SimpleCommand) (o : Redirection) (name : List ℕ)
    (old : Option (List ℕ × List Token)) (new : Option (List Token)) → false ≡ has a o
    → b ≡ with_redirection a o name → old ≡ member_before name new
    → redirected_by a o old ≡ commands_behind b new
redirect_taken a b o name old new h e k = ap (redirected_by a o) k ∙ taken a o name new (sym h)
    ∙ ap (λ (c : SimpleCommand). commands_behind c new) (sym e)

refused_again : (a : SimpleCommand) (o : Redirection) (name : List ℕ) (new : Option (List Token))
    → has a o ≡ true → redirected_by a o (member_before name new) ≡ None
refused_again a o name None h = refl
refused_again a o name (Some ts) h = ap (first_with if_utility)
    (redirect_again a o name (commands expected.Rest ts) h)

pub redirect_refused : (a : SimpleCommand) (o : Redirection) (name : List ℕ)
    (old : Option (List ℕ × List Token)) (new : Option (List Token)) → true ≡ has a o
    → old ≡ member_before name new → redirected_by a o old ≡ None
redirect_refused a o name old new h k = ap (redirected_by a o) k
    ∙ refused_again a o name new (sym h)
