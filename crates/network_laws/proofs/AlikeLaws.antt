-- Alike contents have one answer: what each pipe holds after each node, in both.
use Rattle.std.proofs.Common.{◌≡◌, ℕ, zero, suc, Bool, true, false, cond, eqb, List, [], ◌∷◌}
use Rattle.std.proofs.Common.{Option, Some, None, ◌⊎◌, refl, sym, ap, ◌∙◌, subst, inl, inr, ⊎_elim}
use Rattle.std.proofs.Common.{eqb-true, length}
use Rattle.std.specs.Option.{unwrap_or}
use Rattle.std.specs.Prelude.{if◌then◌else◌}
use Rattle.std.proofs.lemmas.Bool.{false≢true}
use Rattle.machine.specs.Whole.{Answer, WholeAnswer, status_of}
use Rattle.graphs.specs.Graph.{Graph, GraphNode, Source, Stage, node_at, writer, IsAmong}
use Rattle.network_laws.specs.Sequential.{Contents, is_source, is_missing, missing_in, inputs_at}
use Rattle.network_laws.specs.Sequential.{output_of, held_after, answer, status_at, negated}
use Rattle.network_laws.specs.Alike.{IsReadAlike, AreAlike, AlikeContentsHaveOneAnswer}
use Rattle.network_laws.proofs.AnswerLaws.{inputs_agree}
use Rattle.network_laws.proofs.FinishLaws.{missing_by_pipe}

-- all of these pipes have the one property, or one of them has the other
all_or_one : {P Q : ℕ → Type 0} (pipes : List ℕ) → ((p : ℕ) → P p ⊎ Q p)
    → ((p : ℕ) → IsAmong p pipes → P p) ⊎ ((p : ℕ) × IsAmong p pipes × Q p)
all_or_one [] each = inl (λ p i. absurd i)
all_or_one {P = P} {Q = Q} (q ∷ pipes) each =
    ⊎_elim
    (λ here. ⊎_elim
    (λ all. inl (λ p i. ⊎_elim (λ e. subst P (sym e) here) (λ j. all p j) i))
    (λ one. inr (one.0, inr one.1, one.2))
    (all_or_one {P = P} {Q = Q} pipes each))
    (λ there. inr (q, inl refl, there))
    (each q)

-- a stage with one input makes the same of it, if it is missing in both or the filter makes the
-- same of its two contents
one_input : (filter : WholeAnswer) (m m' : Bool) (l l' a b : List ℕ) → m' ≡ m → l ≡ a
    → l' ≡ b → filter (Some a ∷ []) ≡ filter (Some b ∷ [])
    → (filter ((if m' then None else Some l') ∷ [])).out
    ≡ (filter ((if m then None else Some l) ∷ [])).out
one_input filter m m' l l' a b same e e' makes =
    ap (λ (d : Bool). (filter ((if d then None else Some l') ∷ [])).out) same ∙ by_case m
  where
    by_case : (d : Bool) → (filter ((if d then None else Some l') ∷ [])).out
        ≡ (filter ((if d then None else Some l) ∷ [])).out
    by_case true = refl
    by_case false =
        ap (λ (x : List ℕ). (filter (Some x ∷ [])).out) e'
        ∙ ap (λ (r : Answer). r.out) (sym makes)
        ∙ ap (λ (x : List ℕ). (filter (Some x ∷ [])).out) (sym e)

module _ (g : Graph) (contents others : Contents) (alike : AreAlike g contents others) where
  -- the node k is a source that is read alike, and these are its two contents
  abbrev Differs : ℕ → List ℕ → List ℕ → Type 0
  Differs k list list' =
      (is_source (node_at g k) ≡ true)
      × IsReadAlike g (unwrap_or (contents k) []) (unwrap_or (others k) []) k
      × (list ≡ unwrap_or (contents k) []) × (list' ≡ unwrap_or (others k) [])

  -- what the node k has put on a pipe is the same list, or it is a source that differs
  abbrev Keeps : ℕ → List ℕ → List ℕ → Type 0
  Keeps k list list' = (list' ≡ list) ⊎ Differs k list list'

  module _ (f h : ℕ → List ℕ) where
    -- what a stage makes of its inputs
    stage_keeps : ((p : ℕ) → Keeps (writer g p) (f p) (h p)) → (j : ℕ) (filter : WholeAnswer)
        (inputs : List ℕ) (branches : List (Option ℕ))
        → node_at g j ≡ Some (Stage filter inputs branches)
        → (filter (inputs_at g (missing_in others) h inputs)).out
        ≡ (filter (inputs_at g (missing_in contents) f inputs)).out
    stage_keeps keeps j filter inputs branches e =
        ⊎_elim
        (λ all. ap (λ (l : List (Option (List ℕ))). (filter l).out)
        (inputs_agree g (missing_in others) (missing_in contents) h f inputs
        (λ q i. alike.missing (writer g q)) all))
        (λ one. by_one one.0 one.1 one.2)
        (all_or_one {P = λ p. h p ≡ f p} {Q = λ p. Differs (writer g p) (f p) (h p)} inputs keeps)
      where
        by_one : (p : ℕ) → IsAmong p inputs → Differs (writer g p) (f p) (h p)
            → (filter (inputs_at g (missing_in others) h inputs)).out
            ≡ (filter (inputs_at g (missing_in contents) f inputs)).out
        by_one p i d =
            let blind = d.1 j p filter inputs branches e i refl in
            subst (λ ps. (filter (inputs_at g (missing_in others) h ps)).out
            ≡ (filter (inputs_at g (missing_in contents) f ps)).out) (sym blind.0)
            (one_input filter (is_missing g (missing_in contents) (writer g p))
            (is_missing g (missing_in others) (writer g p)) (f p) (h p) _ _
            (alike.missing (writer g p)) d.2 d.3 blind.1)

    -- what any node makes
    node_keeps : ((p : ℕ) → Keeps (writer g p) (f p) (h p)) → (k : ℕ) (node : Option GraphNode)
        → node_at g k ≡ node
        → Keeps k (output_of g contents f k node) (output_of g others h k node)
    node_keeps keeps k (Some (Source true)) e = inl refl
    node_keeps keeps k (Some (Source false)) e =
        let source : is_source (node_at g k) ≡ true = ap is_source e in
        ⊎_elim
        (λ same. inl (ap (λ (c : Option (List ℕ)). unwrap_or c []) same))
        (λ blind. inr (source, blind, refl, refl))
        (alike.alike k source)
    node_keeps keeps k (Some (Stage filter inputs branches)) e =
        inl (stage_keeps keeps k filter inputs branches e)
    node_keeps keeps k _ e = inl refl

    -- its exit status
    status_keeps : (node : Option GraphNode)
        → status_at g others h node ≡ status_at g contents f node
    status_keeps (Some (Stage filter inputs branches)) =
        ap status_of (inputs_agree g (missing_in others) (missing_in contents) h h inputs
        (λ q i. alike.missing (writer g q)) (λ q i. refl))
        ∙ ap (λ (b : Bool). if b then 1 else 0)
        (missing_by_pipe (λ p. is_missing g (missing_in contents) (writer g p)) h 0 inputs h
        ∙ sym (missing_by_pipe (λ p. is_missing g (missing_in contents) (writer g p)) f 0 inputs h))
    status_keeps _ = refl

  -- after each node
  keeps_after : (n p : ℕ)
      → Keeps (writer g p) (held_after g contents n p) (held_after g others n p)
  keeps_after zero p = inl refl
  keeps_after (suc n) p = by_case (eqb (writer g p) n) refl (keeps_after n)
    where
      made : List ℕ
      made = output_of g contents (held_after g contents n) n (node_at g n)

      made' : List ℕ
      made' = output_of g others (held_after g others n) n (node_at g n)

      by_case : (b : Bool) → eqb (writer g p) n ≡ b
          → ((q : ℕ) → Keeps (writer g q) (held_after g contents n q) (held_after g others n q))
          → Keeps (writer g p) (cond b made (held_after g contents n p))
          (cond b made' (held_after g others n p))
      by_case true e keeps =
          subst (λ k. Keeps k made made') (sym (eqb-true (writer g p) n e))
          (node_keeps (held_after g contents n) (held_after g others n) keeps n (node_at g n) refl)
      by_case false e keeps = keeps p

  answer_keeps : (p : ℕ) → Keeps (writer g p) (answer g contents p) (answer g others p)
  unfolding answer
  answer_keeps p = keeps_after (length g.nodes) p

  pipe_keeps : (p : ℕ)
      → (is_source (node_at g (writer g p)) ≡ false) ⊎ (others (writer g p) ≡ contents (writer g p))
      → answer g others p ≡ answer g contents p
  pipe_keeps p spared =
      ⊎_elim
      (λ same. same)
      (λ d. ⊎_elim
      (λ none. absurd (false≢true (sym none ∙ d.0)))
      (λ same. d.3 ∙ ap (λ (c : Option (List ℕ)). unwrap_or c []) same ∙ sym d.2)
      spared)
      (answer_keeps p)

pub alike_contents : AlikeContentsHaveOneAnswer
alike_contents g contents others alike = record {
  pipes = pipe_keeps g contents others alike;
  status = ap (negated g.result.1)
      (status_keeps g contents others alike (answer g contents) (answer g others)
      (node_at g g.result.0));
}
