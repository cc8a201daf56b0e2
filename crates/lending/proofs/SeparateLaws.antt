-- One group after another is lent.
use Rattle.std.proofs.Common.{◌≡◌, ◌≢◌, ℕ, zero, suc, ◌+◌, ◌<◌, List, [], ◌∷◌, ◌++◌, length, map, drop, take}
use Rattle.std.proofs.Common.{get_or, inl, inr, arith, ap, ◌∙◌, sym, subst, refl, ⊎_elim}
use Rattle.std.proofs.Common.{length-set}
use Rattle.std.specs.List.{AllByRecursion}
use Rattle.std.specs.Global.{Vec}
use Rattle.std.proofs.Math.Seq.{drop-cons}
use Rattle.std.proofs.lemmas.Bool.{cases_eq}
use Rattle.stages.specs.inner.Staged.{Staged}
use Rattle.graphs.specs.Graph.{IsAmong}
use Rattle.network_nodes.specs.declared.actor.Actor.{Actor}
use Rattle.network_nodes.specs.declared.actor.Actor.TheVariants as an
use Rattle.network_nodes.specs.inner.Actors.{actor_at}
use Rattle.networks.specs.Networks.{Networked, Face, SameActor, shape}
use Rattle.networks.proofs.Acted.{at_else}
use Rattle.lending.specs.inner.Loans.{Grouped, IsStageAt, AreOut, AreSeparate, IsFree, Lends, put_all, fill}
use Rattle.lending.specs.inner.Loans.{filled, with_nodes}
use Rattle.lending.proofs.FillLaws.{all_free}

-- what is so of each list is so of each of the first ones
pub all_front : (holds : List ℕ → Type 0) (n : ℕ) (table : List (Vec ℕ))
    → AllByRecursion holds (map (λ v. v.items) table)
    → AllByRecursion holds (map (λ v. v.items) (take n table))
all_front holds zero table h = tt
all_front holds (suc n) [] h = tt
all_front holds (suc n) (v ∷ vs) h = (h.0, all_front holds n vs h.1)

module _ {M : Type 0} where
  -- the group that went out last is put back first
  pub fill_more : (groups : List (Grouped M)) (g : Grouped M) (nodes : List (Actor M))
      → fill (groups ++ g ∷ []) nodes ≡ fill groups (put_all g.places g.stages nodes)
  fill_more [] g nodes = refl
  fill_more (h ∷ groups) g nodes = ap (λ (xs : List (Actor M)). put_all h.places h.stages xs)
      (fill_more groups g nodes)

  -- what is free with a group put back is free without it
  free_under : (places : List ℕ) (stages : List (Staged M)) (nodes : List (Actor M))
      → AllByRecursion (IsFree nodes) places → (q : ℕ) → IsFree (put_all places stages nodes) q
      → IsFree nodes q
  free_under [] stages nodes h q free = free
  free_under (p ∷ places) [] nodes h q free = free
  free_under (p ∷ places) (t ∷ stages) nodes h q free = ⊎_elim
      (λ e. subst (λ (j : ℕ). IsFree nodes j) (sym e) h.0)
      (λ ne. free_under places stages nodes h.1 q (
        subst (λ (n : ℕ). q < n) (length-set (put_all places stages nodes) p (an.Stage t)) free.0,
        sym (at_else (put_all places stages nodes) p q (an.Stage t) ne) ∙ free.1,
      ))
      (cases_eq q p)

  -- so with one group more out all the others are out too
  pub out_more : (groups : List (Grouped M)) (g : Grouped M) (nodes : List (Actor M))
      → AllByRecursion (IsFree nodes) g.places → AreOut (put_all g.places g.stages nodes) groups
      → AreOut nodes (groups ++ g ∷ [])
  out_more [] g nodes free out = (free, tt)
  out_more (h ∷ groups) g nodes free out = (
    all_free (IsFree (put_all g.places g.stages nodes)) (IsFree nodes)
        (free_under g.places g.stages nodes free) h.places out.0,
    out_more groups g nodes free out.1,
  )

  -- what is a stage with a group put back, and none of that group, is one without it
  stage_under : (p : ℕ) (places : List ℕ) (stages : List (Staged M)) (nodes : List (Actor M))
      → (IsAmong p places → ⊥) → IsStageAt (put_all places stages nodes) p → IsStageAt nodes p
  stage_under p [] stages nodes apart s = s
  stage_under p (q ∷ places) [] nodes apart s = s
  stage_under p (q ∷ places) (t ∷ stages) nodes apart s =
      let ne : p ≢ q = λ e. apart (inl e) in
      stage_under p places stages nodes (λ a. apart (inr a))
      (s.0, sym (at_else (put_all places stages nodes) q p (an.Stage t) ne) ∙ s.1)

  all_under : (places : List ℕ) (stages : List (Staged M)) (nodes : List (Actor M)) (ps : List ℕ)
      → AllByRecursion (λ p. IsAmong p places → ⊥) ps
      → AllByRecursion (IsStageAt (put_all places stages nodes)) ps
      → AllByRecursion (IsStageAt nodes) ps
  all_under places stages nodes [] apart h = tt
  all_under places stages nodes (p ∷ ps) apart h =
      (stage_under p places stages nodes apart.0 h.0, all_under places stages nodes ps apart.1 h.1)

  lists_under : (places : List ℕ) (stages : List (Staged M)) (nodes : List (Actor M))
      (rest : List (List ℕ)) → AllByRecursion (AllByRecursion (λ p. IsAmong p places → ⊥)) rest
      → AllByRecursion (AllByRecursion (IsStageAt (put_all places stages nodes))) rest
      → AllByRecursion (AllByRecursion (IsStageAt nodes)) rest
  lists_under places stages nodes [] apart h = tt
  lists_under places stages nodes (ps ∷ rest) apart h = (
    all_under places stages nodes ps apart.0 h.0,
    lists_under places stages nodes rest apart.1 h.1,
  )

  module _ (old new : Networked M) (places : List ℕ) (g : Grouped M)
      (lent : Lends places g old new) where
    under : put_all g.places g.stages new.nodes ≡ old.nodes
    under = ap (λ (x : Networked M). x.nodes) lent.back

    free : AllByRecursion (IsFree new.nodes) g.places
    free = subst (λ (ps : List ℕ). AllByRecursion (IsFree new.nodes) ps)
        (sym lent.places_are) lent.free

    -- one group more is out
    pub lent_out : (groups : List (Grouped M)) → AreOut old.nodes groups
        → AreOut new.nodes (groups ++ g ∷ [])
    lent_out groups out = out_more groups g new.nodes free
        (subst (λ (xs : List (Actor M)). AreOut xs groups) (sym under) out)

    -- with all of them put back the network is what it was
    pub lent_back : (groups : List (Grouped M)) → filled new (groups ++ g ∷ []) ≡ filled old groups
    lent_back groups =
        ap (λ (xs : List (Actor M)). with_nodes new xs) (fill_more groups g new.nodes)
        ∙ ap (λ (x : Networked M). filled x groups) lent.back

    -- and the other lists are still lists of stages
    pub lent_left : (rest : List (List ℕ))
        → AllByRecursion (AllByRecursion (λ p. IsAmong p places → ⊥)) rest
        → AllByRecursion (AllByRecursion (IsStageAt old.nodes)) rest
        → AllByRecursion (AllByRecursion (IsStageAt new.nodes)) rest
    lent_left rest apart h =
        lists_under g.places g.stages new.nodes rest
        (subst (λ (ps : List ℕ). AllByRecursion (AllByRecursion (λ p. IsAmong p ps → ⊥)) rest)
        (sym lent.places_are) apart)
        (subst (λ (xs : List (Actor M)). AllByRecursion (AllByRecursion (IsStageAt xs)) rest)
        (sym under) h)

-- the first of the lists that are left
pub first_left : (table : List (Vec ℕ)) (k : ℕ) (d : Vec ℕ) → k < length table
    → map (λ v. v.items) (drop k table) ≡ (let v = get_or table k d in
    v.items) ∷ map (λ v. v.items) (drop (k + 1) table)
first_left table k d lt =
    let n : suc k ≡ k + 1 = omega arith in
    ap (λ vs. map (λ v. v.items) vs) (drop-cons table k d lt)
    ∙ ap (λ (j : ℕ). (let v = get_or table k d in v.items) ∷ map (λ v. v.items) (drop j table))
    n

-- ---- the first lists of several

-- the first lists, this many, are as separate as all of them
pub separate_front : (n : ℕ) (table : List (Vec ℕ)) → AreSeparate (map (λ v. v.items) table)
    → AreSeparate (map (λ v. v.items) (take n table))
separate_front zero table h = tt
separate_front (suc n) [] h = tt
separate_front (suc n) (v ∷ vs) h = (
  h.0,
  all_front (AllByRecursion (λ p. IsAmong p v.items → ⊥)) n vs h.1,
  separate_front n vs h.2,
)

-- ---- stages stay stages

module _ {M : Type 0} where
  stage_is : (a b : Actor M) (t : Staged M) → a ≡ an.Stage t → SameActor a b
      → (u : Staged M) × (b ≡ an.Stage u)
  stage_is a (an.Source x) t e s =
      let k = ap (λ (f : Face). f.shape) s ∙ ap (λ (c : Actor M). shape c) e in
      absurd (cc k)
  stage_is a (an.Stage u) t e s = (u, refl)
  stage_is a (an.Sink y) t e s =
      let k = ap (λ (f : Face). f.shape) s ∙ ap (λ (c : Actor M). shape c) e in
      absurd (cc k)
  stage_is a an.Lent t e s =
      let k = ap (λ (f : Face). f.shape) s ∙ ap (λ (c : Actor M). shape c) e in
      absurd (cc k)

  stays_in : (xs ys : List (Actor M)) → ((k : ℕ) → SameActor (actor_at xs k) (actor_at ys k))
      → (ps : List ℕ) → AllByRecursion (IsStageAt xs) ps → AllByRecursion (IsStageAt ys) ps
  stays_in xs ys f [] h = tt
  stays_in xs ys f (p ∷ ps) h =
      (stage_is (actor_at xs p) (actor_at ys p) h.0.0 h.0.1 (f p), stays_in xs ys f ps h.1)

  -- what was a stage is one in the same network
  pub stages_stay : (xs ys : List (Actor M)) → ((k : ℕ) → SameActor (actor_at xs k) (actor_at ys k))
      → (ls : List (List ℕ)) → AllByRecursion (AllByRecursion (IsStageAt xs)) ls
      → AllByRecursion (AllByRecursion (IsStageAt ys)) ls
  stages_stay xs ys f [] h = tt
  stages_stay xs ys f (ps ∷ ls) h = (stays_in xs ys f ps h.0, stages_stay xs ys f ls h.1)
