-- Stages taken out of their places one after another, and put back.
use Rattle.std.proofs.Common.{◌≡◌, ◌≢◌, ℕ, suc, ◌+◌, ◌<◌, List, [], ◌∷◌, ◌++◌, get_or, set, length}
use Rattle.std.proofs.Common.{take, drop, ap₂, length-append, length-take-le, refl, ap, ◌∙◌, sym}
use Rattle.std.proofs.Common.{subst, subst₂, arith, ⊎_elim, inl, inr, length-set}
use Rattle.std.specs.List.{AllByRecursion}
use Rattle.std.proofs.lemmas.Bool.{cases_eq}
use Rattle.std.proofs.Math.Seq.{drop-cons}
use Rattle.std.proofs.lemmas.List.{get_or_default, take_more, set-set, set-get_or}
use Rattle.stages.specs.inner.Staged.{Staged}
use Rattle.graphs.specs.Graph.{IsAmong, AreDistinct}
use Rattle.network_nodes.specs.declared.actor.Actor.{Actor}
use Rattle.network_nodes.specs.declared.actor.Actor.TheVariants as an
use Rattle.network_nodes.specs.inner.Actors.{actor_at}
use Rattle.networks.specs.Networks.{IsHere}
use Rattle.networks.proofs.Acted.{at_same, at_else}
use Rattle.lending.specs.inner.Loans.{Grouped, IsStageAt, IsFree, AreOut, put_all, fill}
use Rattle.lending.proofs.FillLaws.{all_free, free_set, here_within}
use Rattle.lending.proofs.SeparateLaws.{fill_more}

-- one fewer
pub one_less : {A : Type 0} (xs ys : List A) (y : A) → xs ≡ ys ++ y ∷ [] → length xs ≡ length ys + 1
one_less xs ys y e = ap (λ zs. length zs) e ∙ length-append ys (y ∷ [])

-- what is so of each is so of the last, and of each of the others
pub all_last : {A : Type 0} (P : A → Type 0) (xs ys : List A) (y : A) → xs ≡ ys ++ y ∷ []
    → AllByRecursion P xs → AllByRecursion P ys × P y
all_last P xs ys y e h = split ys (subst (λ (zs : List _). AllByRecursion P zs) e h) where
  split : (zs : List _) → AllByRecursion P (zs ++ y ∷ []) → AllByRecursion P zs × P y
  split [] a = (tt, a.0)
  split (z ∷ zs) a = let r = split zs a.1 in ((a.0, r.0), r.1)

module _ {M : Type 0} where
  -- one stage more was taken out
  pub put_more : (places : List ℕ) (stages : List (Staged M)) (p : ℕ) (t : Staged M)
      (nodes : List (Actor M)) → length stages ≡ length places
      → put_all (places ++ p ∷ []) (stages ++ t ∷ []) nodes
      ≡ put_all places stages (set nodes p (an.Stage t))
  put_more [] [] p t nodes e = refl
  put_more (q ∷ qs) (u ∷ us) p t nodes e =
      ap (λ (xs : List (Actor M)). set xs q (an.Stage u))
      (put_more qs us p t nodes (omega (arith, e)))
  put_more _ _ p t nodes e = absurd (omega (arith, e))

  -- a stage that is put back at its place
  pub back_in : (nodes : List (Actor M)) (p : ℕ) (t : Staged M) → actor_at nodes p ≡ an.Stage t
      → set (set nodes p an.Lent) p (an.Stage t) ≡ nodes
  back_in nodes p t e = set-set nodes p an.Lent (an.Stage t)
      ∙ (ap (λ (a : Actor M). set nodes p a) (sym e) ∙ set-get_or nodes p an.Lent)

  stage_here : (nodes : List (Actor M)) (p : ℕ) → IsStageAt nodes p → IsHere (actor_at nodes p)
  stage_here nodes p s = subst IsHere (sym s.1) tt

  -- a stage has a number of the network
  pub stage_within : (nodes : List (Actor M)) (p : ℕ) → IsStageAt nodes p → p < length nodes
  stage_within nodes p s = here_within nodes p (stage_here nodes p s)

  now_free : (nodes : List (Actor M)) (p : ℕ) → p < length nodes → IsFree (set nodes p an.Lent) p
  now_free nodes p lt = (
    subst (λ (n : ℕ). p < n) (sym (length-set nodes p an.Lent)) lt,
    at_same nodes p an.Lent lt,
  )

  still_free : (nodes : List (Actor M)) (p q : ℕ) → p < length nodes → IsFree nodes q
      → IsFree (set nodes p an.Lent) q
  still_free nodes p q lt free = ⊎_elim
      (λ e. subst (λ (j : ℕ). IsFree (set nodes p an.Lent) j) (sym e) (now_free nodes p lt))
      (λ ne. free_set nodes p an.Lent q ne free)
      (cases_eq q p)

  -- one place more is free
  pub free_more : (nodes : List (Actor M)) (p : ℕ) → p < length nodes → (places : List ℕ)
      → AllByRecursion (IsFree nodes) places
      → AllByRecursion (IsFree (set nodes p an.Lent)) (places ++ p ∷ [])
  free_more nodes p lt [] h = (now_free nodes p lt, tt)
  free_more nodes p lt (q ∷ places) h =
      (still_free nodes p q lt h.0, free_more nodes p lt places h.1)

  -- the other stages are still there
  pub stages_left : (nodes : List (Actor M)) (p : ℕ) (places : List ℕ) → (IsAmong p places → ⊥)
      → AllByRecursion (IsStageAt nodes) places
      → AllByRecursion (IsStageAt (set nodes p an.Lent)) places
  stages_left nodes p [] apart h = tt
  stages_left nodes p (q ∷ places) apart h =
      let ne : q ≢ p = λ e. apart (inl (sym e)) in (
        (h.0.0, at_else nodes p q an.Lent ne ∙ h.0.1),
        stages_left nodes p places (λ a. apart (inr a)) h.1,
      )

  -- what was read at the place of a stage is that stage
  pub taken_is : (nodes : List (Actor M)) (p : ℕ) (d r : Actor M) → IsStageAt nodes p
      → r ≡ get_or nodes p d → (t : Staged M) × (r ≡ an.Stage t)
  taken_is nodes p d r s e =
      (s.0, e ∙ (get_or_default nodes p d an.Lent (stage_within nodes p s) ∙ s.1))

  -- what is so before the stage k of those that are wanted is taken out: `stages` were, in this
  -- order, of these `nodes`
  pub record Taken (wanted : List ℕ) (k : ℕ) (places : List ℕ) (stages : List (Staged M))
      (start nodes : List (Actor M)) : Type 0 where
    pub places_are : places ≡ take k wanted
    pub count : length stages ≡ k
    pub left : AllByRecursion (IsStageAt nodes) (drop k wanted)
    pub once : AreDistinct (drop k wanted)
    pub free : AllByRecursion (IsFree nodes) (take k wanted)
    pub back : put_all (take k wanted) stages nodes ≡ start

  -- and so it is after that
  module _ (wanted places places' : List ℕ) (k : ℕ) (stages stages' : List (Staged M))
      (start nodes next : List (Actor M)) (t : Staged M) (lt : k < length wanted)
      (i : Taken wanted k places stages start nodes)
      (is : actor_at nodes (get_or wanted k 0) ≡ an.Stage t)
      (only : next ≡ set nodes (get_or wanted k 0) an.Lent)
      (noted : places' ≡ places ++ get_or wanted k 0 ∷ []) (kept : stages' ≡ stages ++ t ∷ []) where
    abbrev place : ℕ
    place = get_or wanted k 0

    front : drop k wanted ≡ place ∷ drop (suc k) wanted
    front = drop-cons wanted k 0 lt

    next_k : suc k ≡ k + 1
    next_k = omega arith

    taken : take (k + 1) wanted ≡ take k wanted ++ place ∷ []
    taken = take_more wanted k 0 lt

    within : place < length nodes
    within = stage_within nodes place (t, is)

    take_left : AllByRecursion (IsStageAt next) (drop (k + 1) wanted)
    take_left =
        subst₂ (λ (xs : List (Actor M)) (n : ℕ). AllByRecursion (IsStageAt xs) (drop n wanted))
        (sym only) next_k
        (stages_left nodes place (drop (suc k) wanted) (subst AreDistinct front i.once).0
        (subst (λ (ps : List ℕ). AllByRecursion (IsStageAt nodes) ps) front i.left).1)

    take_back : put_all (take (k + 1) wanted) (stages ++ t ∷ []) next
        ≡ put_all (take k wanted) stages nodes
    take_back =
        ap₂ (λ (xs : List (Actor M)) (ps : List ℕ). put_all ps (stages ++ t ∷ []) xs) only taken
        ∙ (put_more (take k wanted) stages place t (set nodes place an.Lent) (i.count
        ∙ sym (length-take-le k wanted (omega (arith, lt))))
        ∙ ap (λ (xs : List (Actor M)). put_all (take k wanted) stages xs)
        (back_in nodes place t is))

    pub taken_more : Taken wanted (k + 1) places' stages' start next
    taken_more = record {
      places_are = noted ∙ (ap (λ (ps : List ℕ). ps ++ place ∷ []) i.places_are ∙ sym taken);
      count = ap (λ (xs : List (Staged M)). length xs) kept
          ∙ (length-append stages (t ∷ []) ∙ ap (λ (n : ℕ). n + 1) i.count);
      left = take_left;
      once = subst (λ (n : ℕ). AreDistinct (drop n wanted)) next_k
          (subst AreDistinct front i.once).1;
      free = subst₂ (λ (xs : List (Actor M)) (ps : List ℕ). AllByRecursion (IsFree xs) ps)
          (sym only) (sym taken) (free_more nodes place within (take k wanted) i.free);
      back = ap (λ (xs : List (Staged M)). put_all (take (k + 1) wanted) xs next) kept
          ∙ (take_back ∙ i.back);
    }

  -- the next one is a stage
  pub front_stage : (nodes : List (Actor M)) (wanted : List ℕ) (k : ℕ) → k < length wanted
      → AllByRecursion (IsStageAt nodes) (drop k wanted) → IsStageAt nodes (get_or wanted k 0)
  front_stage nodes wanted k lt left =
      (subst (λ (ps : List ℕ). AllByRecursion (IsStageAt nodes) ps)
      (drop-cons wanted k 0 lt) left).0

  -- one step of the loop that puts stages back
  pub put_last : (nodes next : List (Actor M)) (ps qs : List ℕ) (p : ℕ) (ts us : List (Staged M))
      (t : Staged M) → ps ≡ qs ++ p ∷ [] → ts ≡ us ++ t ∷ [] → length ts ≡ length ps
      → next ≡ set nodes p (an.Stage t) → put_all qs us next ≡ put_all ps ts nodes
  put_last nodes next ps qs p ts us t e f count only =
      let long : length us ≡ length qs =
      omega (
        arith,
        count,
        ap (λ (xs : List ℕ). length xs) e,
        ap (λ (xs : List (Staged M)). length xs) f,
        length-append qs (p ∷ []),
        length-append us (t ∷ []),
      ) in
      ap (λ (xs : List (Actor M)). put_all qs us xs) only
      ∙ (sym (put_more qs us p t nodes long)
      ∙ ap₂ (λ (xs : List ℕ) (ys : List (Staged M)). put_all xs ys nodes) (sym e) (sym f))

  -- there are as many nodes as before
  pub within_more : (nodes next : List (Actor M)) → length next ≡ length nodes → (places : List ℕ)
      → AllByRecursion (λ k. k < length nodes) places → AllByRecursion (λ k. k < length next) places
  within_more nodes next e places h = subst (λ (n : ℕ). AllByRecursion (λ k. k < n) places)
      (sym e) h

  -- the places of the last group are places of the network, and so are those of the others
  pub last_within : (nodes : List (Actor M)) (gs hs : List (Grouped M)) (g : Grouped M)
      → gs ≡ hs ++ g ∷ []
      → AllByRecursion (λ (h : Grouped M). AllByRecursion (λ k. k < length nodes) h.places) gs
      → AllByRecursion (λ k. k < length nodes) g.places
  last_within nodes gs hs g e h =
      (all_last (λ (x : Grouped M). AllByRecursion (λ k. k < length nodes) x.places) gs hs g e h).1

  pub groups_within : (nodes next : List (Actor M)) → length next ≡ length nodes
      → (gs hs : List (Grouped M)) (g : Grouped M) → gs ≡ hs ++ g ∷ []
      → AllByRecursion (λ (h : Grouped M). AllByRecursion (λ k. k < length nodes) h.places) gs
      → AllByRecursion (λ (h : Grouped M). AllByRecursion (λ k. k < length next) h.places) hs
  groups_within nodes next e gs hs g same h =
      subst (λ (n : ℕ). AllByRecursion (λ (x : Grouped M). AllByRecursion (λ k. k < n) x.places) hs)
      (sym e)
      (all_last (λ (x : Grouped M). AllByRecursion (λ k. k < length nodes) x.places) gs hs g same
      h).0

  -- one step of the loop that puts groups back
  pub put_last_group : (nodes next : List (Actor M)) (gs hs : List (Grouped M)) (g : Grouped M)
      → gs ≡ hs ++ g ∷ [] → next ≡ put_all g.places g.stages nodes → fill hs next ≡ fill gs nodes
  put_last_group nodes next gs hs g e only =
      ap (λ (xs : List (Actor M)). fill hs xs) only
      ∙ (sym (fill_more hs g nodes) ∙ ap (λ (xs : List (Grouped M)). fill xs nodes) (sym e))

  -- places that are free are places of the network
  free_within : (nodes : List (Actor M)) (places : List ℕ) → AllByRecursion (IsFree nodes) places
      → AllByRecursion (λ k. k < length nodes) places
  free_within nodes places h = all_free (IsFree nodes) (λ k. k < length nodes)
      (λ k free. free.0) places h

  -- and so are the places of groups that are out
  pub out_within : (nodes : List (Actor M)) (groups : List (Grouped M)) → AreOut nodes groups
      → AllByRecursion (λ (g : Grouped M). AllByRecursion (λ k. k < length nodes) g.places) groups
  out_within nodes [] h = tt
  out_within nodes (g ∷ groups) h = (free_within nodes g.places h.0, out_within nodes groups h.1)

  -- nothing is left to put back
  pub put_none : (places : List ℕ) (stages : List (Staged M)) (nodes : List (Actor M))
      → length places ≡ 0 → put_all places stages nodes ≡ nodes
  put_none [] stages nodes e = refl
  put_none (p ∷ places) stages nodes e = absurd (omega (arith, e))

  pub fill_none : (groups : List (Grouped M)) (nodes : List (Actor M)) → length groups ≡ 0
      → fill groups nodes ≡ nodes
  fill_none [] nodes e = refl
  fill_none (g ∷ groups) nodes e = absurd (omega (arith, e))
