-- The pipelines of a text's script are pipelines in the background, and then one in the foreground,
-- each of at least one command.
use Rattle.std.proofs.Common.{◌≡◌, ℕ, Bool, true, false, cond, nat_lt, List, [], ◌∷◌, ◌++◌, length}
use Rattle.std.proofs.Common.{Option, Some, None, refl, subst}
use Rattle.std.proofs.lemmas.Option.{none-some, same_Some}
use Rattle.command_words.specs.Texts.{◌>>=◌}
use Rattle.pipeline_text.specs.declared.token.Control.{Control}
use Rattle.pipeline_text.specs.declared.token.Control.TheVariants.{Pipe, Background, Semicolon}
use Rattle.pipeline_text.specs.declared.token.Control.TheVariants.{Newline}
use Rattle.pipeline_text.specs.SimpleCommands.{SimpleCommand}
use Rattle.pipeline_text.specs.declared.command.Expected.TheVariants as expected
use Rattle.pipeline_text.specs.declared.script.Pipeline.{Pipeline}
use Rattle.pipeline_text.specs.declared.script.Script.{Script}
use Rattle.pipeline_text.specs.Quotes.{marks}
use Rattle.pipeline_text.specs.Tokens.{tokens}
use Rattle.pipeline_text.specs.Grammar.{commands, with_pipeline, alone, piped_into, pipelines}
use Rattle.pipeline_text.specs.Grammar.{fifo_names, makes_fifos, is_empty, body, with_fifos}
use Rattle.pipeline_text.specs.Grammar.{begun_with, script, parsed, text_max}
use Rattle.commands.specs.Filters.{is_nothing}
use Rattle.planner.specs.Stages.{AreBody}
use Rattle.planner.specs.Laws.{TextsHaveBodies}
use Rattle.commands.proofs.Dashes.{bound}

-- each pipeline has a command
abbrev pub AreFilled : List Pipeline → Type 0
AreFilled [] = Unit {0}
AreFilled (p ∷ ps) = (is_nothing p.commands ≡ false) × AreFilled ps

with_filled : (p : Pipeline) (o : Option (List Pipeline)) (ps : List Pipeline)
    → is_nothing p.commands ≡ false → ((qs : List Pipeline) → o ≡ Some qs → AreFilled qs)
    → with_pipeline p o ≡ Some ps → AreFilled ps
with_filled p o ps h ih e = bound o (λ (qs : List Pipeline). Some (p ∷ qs)) ps e
    (λ qs eq es. subst AreFilled (same_Some (p ∷ qs) ps es) (h, ih qs eq))

piped_filled : (c : SimpleCommand) (o : Option (List Pipeline)) (ps : List Pipeline)
    → ((qs : List Pipeline) → o ≡ Some qs → AreFilled qs) → piped_into c o ≡ Some ps → AreFilled ps
piped_filled c (Some (q ∷ qs)) ps ih e =
    subst AreFilled
    (same_Some (record {
      negated = c.negated;
      background = q.background;
      commands =
          c.cmd ∷ q.commands;
    } ∷ qs) ps e) (refl, (ih (q ∷ qs) refl).1)
piped_filled c _ ps ih e = absurd (none-some ps e)

pipelines_filled : (cs : List (SimpleCommand × Control)) (ps : List Pipeline)
    → pipelines cs ≡ Some ps → AreFilled ps
pipelines_filled [] ps e = subst AreFilled (same_Some [] ps e) tt
pipelines_filled ((c, Pipe) ∷ cs) ps e = piped_filled c (pipelines cs) ps (pipelines_filled cs) e
pipelines_filled ((c, Background) ∷ cs) ps e =
    with_filled (alone c Background) (pipelines cs) ps refl (pipelines_filled cs) e
pipelines_filled ((c, Semicolon) ∷ cs) ps e =
    with_filled (alone c Semicolon) (pipelines cs) ps refl (pipelines_filled cs) e
pipelines_filled ((c, Newline) ∷ cs) ps e =
    with_filled (alone c Newline) (pipelines cs) ps refl (pipelines_filled cs) e

before_body : (p : Pipeline) (qs : List Pipeline) → p.background ≡ true
    → is_nothing p.commands ≡ false → AreBody qs → AreBody (p ∷ qs)
before_body p [] b n h = absurd h
before_body p (q ∷ qs) b n h = (b, n, h)

body_is : (ps bs : List Pipeline) → AreFilled ps → body ps ≡ Some bs → AreBody bs
body_is [] bs f e = absurd (none-some bs e)
body_is (p ∷ ps) bs f e = go p.background refl e (body_is ps)
  where
    last : (b : Bool) → p.background ≡ false → cond b (Some (p ∷ [])) None ≡ Some bs → AreBody bs
    last true h e = subst AreBody (same_Some (p ∷ []) bs e) (h, f.0)
    last false h e = absurd (none-some bs e)

    go : (b : Bool) → p.background ≡ b
        → cond b (with_pipeline p (body ps)) (cond (is_empty ps) (Some (p ∷ [])) None) ≡ Some bs
        → ((bs : List Pipeline) → AreFilled ps → body ps ≡ Some bs → AreBody bs) → AreBody bs
    go true h e ih = bound (body ps) (λ (qs : List Pipeline). Some (p ∷ qs)) bs e
        (λ qs eq es. subst AreBody (same_Some (p ∷ qs) bs es)
        (before_body p qs h f.0 (ih qs f.1 eq)))
    go false h e ih = last (is_empty ps) h e

script_body : (ps : List Pipeline) (s : Script) → AreFilled ps → script ps ≡ Some s
    → AreBody s.pipelines
script_body [] s f e = absurd (none-some s e)
script_body (p ∷ ps) s f e = go (fifo_names p) e (script_body ps)
  where
    go : (names : Option (List (List ℕ))) → begun_with p names (body (p ∷ ps)) (script ps) ≡ Some s
        → ((s : Script) → AreFilled ps → script ps ≡ Some s → AreBody s.pipelines)
        → AreBody s.pipelines
    go None e ih = bound (body (p ∷ ps))
        (λ (qs : List Pipeline). Some (record { fifos = []; pipelines = qs })) s e
        (λ qs eq es. subst (λ (t : Script). AreBody t.pipelines) (same_Some _ s es)
        (body_is (p ∷ ps) qs f eq))
    go (Some names) e ih = made (makes_fifos p names) e
      where
        made : (b : Bool) → cond b (with_fifos names (script ps)) None ≡ Some s
            → AreBody s.pipelines
        made true e =
            bound (script ps)
            (λ (t : Script). Some (record { fifos = names ++ t.fifos; pipelines = t.pipelines })) s
            e (λ t et es. subst (λ (t : Script). AreBody t.pipelines) (same_Some _ s es)
            (ih t f.1 et))
        made false e = absurd (none-some s e)

-- a text's script has a body
pub texts_have_bodies : TextsHaveBodies
texts_have_bodies text s e = go (nat_lt text_max (length text)) e
  where
    go : (b : Bool) → cond b None ((marks text >>= tokens) >>= parsed) ≡ Some s
        → AreBody s.pipelines
    go true e = absurd (none-some s e)
    go false e = bound (marks text >>= tokens) parsed s e (λ ts et ep.
        bound (commands expected.Pipeline ts >>= pipelines) script s ep (λ ps eps es.
        bound (commands expected.Pipeline ts) pipelines ps eps
        (λ cs ec eq. script_body ps s (pipelines_filled cs ps eq) es)))
