-- Groups put back into their places: how many nodes there are, what the others are, and how they go
-- on.
use Rattle.std.proofs.Common.{◌≡◌, ◌≢◌, ℕ, zero, suc, ◌<◌, List, [], ◌∷◌, Some, get_or, set, length}
use Rattle.std.proofs.Common.{refl, ap, ◌∙◌, sym, subst, arith, length-set}
use Rattle.std.specs.List.{AllZip, AllByRecursion}
use Rattle.std.proofs.lemmas.List.{set_comm}
use Rattle.machine.specs.Law.{Shown}
use Rattle.collector.specs.Files.{FilesShown}
use Rattle.stages.specs.inner.Staged.{Staged}
use Rattle.network_nodes.specs.declared.actor.Actor.{Actor}
use Rattle.network_nodes.specs.declared.actor.Actor.TheVariants as an
use Rattle.network_nodes.specs.inner.Actors.{actor_at}
use Rattle.networks.specs.Networks.{IsHere, HasFile, TouchesNodes, in_file, out_file}
use Rattle.networks.proofs.Touched.{touches_by}
use Rattle.networks.proofs.Acted.{at_else}
use Rattle.lending.specs.inner.Loans.{Grouped, GoesOn, GroupGoesOn, IsFree, AreOut, put_all, fill}
use Rattle.lending.specs.inner.Loans.{NodeGoesOn, NodesGoOn}
use Rattle.lending.proofs.KeptNodes.{nodes_refl, stage_goes}

-- what is so of two lists place by place is so after one place was set in both
both_set : {A : Type 0} (R : A → A → Type 0) (d : A) (xs ys : List A) → length ys ≡ length xs
    → (p : ℕ) (a b : A) → R a b → ((k : ℕ) → R (get_or xs k d) (get_or ys k d)) → (k : ℕ)
    → R (get_or (set xs p a) k d) (get_or (set ys p b) k d)
both_set R d [] [] e p a b r each k = each k
both_set R d (x ∷ xs) (y ∷ ys) e zero a b r each zero = r
both_set R d (x ∷ xs) (y ∷ ys) e zero a b r each (suc k) = each (suc k)
both_set R d (x ∷ xs) (y ∷ ys) e (suc p) a b r each zero = each 0
both_set R d (x ∷ xs) (y ∷ ys) e (suc p) a b r each (suc k) =
    both_set R d xs ys (omega (arith, e)) p a b r (λ j. each (suc j)) k
both_set R d _ _ e p a b r each k = absurd (omega (arith, e))

-- what is so of each element of a list, and of the new one, is so of each
each_set : {A : Type 0} (P : ℕ → A → Type 0) (d : A) (xs : List A) (p : ℕ) (a : A)
    → ((k : ℕ) → P k a) → ((k : ℕ) → P k (get_or xs k d)) → (k : ℕ) → P k (get_or (set xs p a) k d)
each_set P d [] p a h each k = each k
each_set P d (x ∷ xs) zero a h each zero = h 0
each_set P d (x ∷ xs) zero a h each (suc k) = each (suc k)
each_set P d (x ∷ xs) (suc p) a h each zero = each 0
each_set P d (x ∷ xs) (suc p) a h each (suc k) =
    each_set (λ j. P (suc j)) d xs p a (λ j. h (suc j)) (λ j. each (suc j)) k

-- what is so of places for one reason is so for a weaker one
pub all_free : (P Q : ℕ → Type 0) → ((p : ℕ) → P p → Q p) → (places : List ℕ)
    → AllByRecursion P places → AllByRecursion Q places
all_free P Q f [] h = tt
all_free P Q f (p ∷ places) h = (f p h.0, all_free P Q f places h.1)

module _ {M : Type 0} where
  lent_is : (a : Actor M) → a ≡ an.Lent → IsHere a → ⊥
  lent_is a e h = subst IsHere e h

  -- a node that is here has a number of the network
  pub here_within : (nodes : List (Actor M)) (k : ℕ) → IsHere (actor_at nodes k) → k < length nodes
  here_within [] k h = absurd h
  here_within (x ∷ xs) zero h = omega arith
  here_within (x ∷ xs) (suc k) h = let r = here_within xs k h in omega (arith, r)

  -- ---- how many nodes there are

  -- as many as before, whatever is put back
  pub put_count : (places : List ℕ) (stages : List (Staged M)) (nodes : List (Actor M))
      → length (put_all places stages nodes) ≡ length nodes
  put_count [] stages nodes = refl
  put_count (p ∷ places) [] nodes = refl
  put_count (p ∷ places) (t ∷ stages) nodes =
      length-set (put_all places stages nodes) p (an.Stage t) ∙ put_count places stages nodes

  pub fill_count : (groups : List (Grouped M)) (nodes : List (Actor M))
      → length (fill groups nodes) ≡ length nodes
  fill_count [] nodes = refl
  fill_count (g ∷ groups) nodes = put_count g.places g.stages (fill groups nodes)
      ∙ fill_count groups nodes

  -- ---- a node that is here, with others put back

  -- it has none of the free places
  pub other_place : (nodes : List (Actor M)) (k p : ℕ) → IsHere (actor_at nodes k) → IsFree nodes p
      → p ≢ k
  other_place nodes k p here free = λ e. lent_is (actor_at nodes p) free.1
      (subst (λ (j : ℕ). IsHere (actor_at nodes j)) (sym e) here)

  put_set : (nodes xs : List (Actor M)) (k : ℕ) (a : Actor M) → IsHere (actor_at nodes k)
      → (places : List ℕ) (stages : List (Staged M)) → AllByRecursion (IsFree nodes) places
      → put_all places stages (set xs k a) ≡ set (put_all places stages xs) k a
  put_set nodes xs k a here [] stages free = refl
  put_set nodes xs k a here (p ∷ places) [] free = refl
  put_set nodes xs k a here (p ∷ places) (t ∷ stages) free =
      ap (λ (ys : List (Actor M)). set ys p (an.Stage t))
      (put_set nodes xs k a here places stages free.1)
      ∙ sym (set_comm (put_all places stages xs) p k (an.Stage t) a
      (other_place nodes k p here free.0))

  -- so a change of it is one with the others put back
  pub fill_set : (nodes : List (Actor M)) (k : ℕ) (a : Actor M) → IsHere (actor_at nodes k)
      → (groups : List (Grouped M)) → AreOut nodes groups
      → fill groups (set nodes k a) ≡ set (fill groups nodes) k a
  fill_set nodes k a here [] out = refl
  fill_set nodes k a here (g ∷ groups) out =
      ap (λ (ys : List (Actor M)). put_all g.places g.stages ys)
      (fill_set nodes k a here groups out.1)
      ∙ put_set nodes (fill groups nodes) k a here g.places g.stages out.0

  put_at : (nodes xs : List (Actor M)) (k : ℕ) → IsHere (actor_at nodes k)
      → (places : List ℕ) (stages : List (Staged M)) → AllByRecursion (IsFree nodes) places
      → actor_at (put_all places stages xs) k ≡ actor_at xs k
  put_at nodes xs k here [] stages free = refl
  put_at nodes xs k here (p ∷ places) [] free = refl
  put_at nodes xs k here (p ∷ places) (t ∷ stages) free =
      at_else (put_all places stages xs) p k (an.Stage t)
      (λ e. other_place nodes k p here free.0 (sym e))
      ∙ put_at nodes xs k here places stages free.1

  -- and it is the same one there
  pub fill_at : (nodes : List (Actor M)) (k : ℕ) → IsHere (actor_at nodes k)
      → (groups : List (Grouped M)) → AreOut nodes groups
      → actor_at (fill groups nodes) k ≡ actor_at nodes k
  fill_at nodes k here [] out = refl
  fill_at nodes k here (g ∷ groups) out =
      put_at nodes (fill groups nodes) k here g.places g.stages out.0
      ∙ fill_at nodes k here groups out.1

  -- its files are those of the node with the groups put back
  reads_here : (a : Actor M) (file : ℕ) → in_file a ≡ Some file → IsHere a
  reads_here an.Lent file e = absurd (cc)
  reads_here _ file e = tt

  writes_here : (a : Actor M) (file : ℕ) → out_file a ≡ Some file → IsHere a
  writes_here an.Lent file e = absurd (cc)
  writes_here _ file e = tt

  pub filled_touches : (nodes : List (Actor M)) (groups : List (Grouped M)) (f g : FilesShown)
      → AreOut nodes groups → TouchesNodes nodes f g → TouchesNodes (fill groups nodes) f g
  filled_touches nodes groups f g out h = touches_by (fill groups nodes) nodes f g
      (λ k file e. ap in_file (fill_at nodes k (reads_here (actor_at nodes k) file e) groups out)
      ∙ e)
      (λ k file e. ap out_file (fill_at nodes k (writes_here (actor_at nodes k) file e) groups out)
      ∙ e)
      h

  -- ---- places that stay free

  -- a place stays free if another node changes
  pub free_set : (nodes : List (Actor M)) (k : ℕ) (a : Actor M) → (p : ℕ) → p ≢ k → IsFree nodes p
      → IsFree (set nodes k a) p
  free_set nodes k a p ne free = (
    subst (λ (n : ℕ). p < n) (sym (length-set nodes k a)) free.0,
    at_else nodes k p a ne
        ∙ free.1,
  )

  -- groups stay out if each free place stays free
  pub all_out : (xs ys : List (Actor M)) → ((p : ℕ) → IsFree xs p → IsFree ys p)
      → (groups : List (Grouped M)) → AreOut xs groups → AreOut ys groups
  all_out xs ys f [] h = tt
  all_out xs ys f (g ∷ groups) h =
      (all_free (IsFree xs) (IsFree ys) f g.places h.0, all_out xs ys f groups h.1)

  -- ---- turns of the groups that are out

  module _ (shows : M → Shown) where
    set_goes : (f g : FilesShown) (xs ys : List (Actor M)) (p : ℕ) (a b : Actor M)
        → NodesGoOn shows f g xs ys → NodeGoesOn shows f g a b
        → NodesGoOn shows f g (set xs p a) (set ys p b)
    set_goes f g xs ys p a b r one = record {
      count = length-set ys p b ∙ (r.count ∙ sym (length-set xs p a));
      nodes = both_set (NodeGoesOn shows f g) an.Lent xs ys r.count p a b one r.nodes;
    }

    put_goes : (f : FilesShown) (places : List ℕ) (ts us : List (Staged M)) (xs ys : List (Actor M))
        → AllZip (GoesOn shows) ts us → NodesGoOn shows f f xs ys
        → NodesGoOn shows f f (put_all places ts xs) (put_all places us ys)
    put_goes f [] ts us xs ys all r = r
    put_goes f (p ∷ places) [] [] xs ys all r = r
    put_goes f (p ∷ places) (t ∷ ts) (u ∷ us) xs ys all r =
        set_goes f f (put_all places ts xs) (put_all places us ys) p (an.Stage t) (an.Stage u)
        (put_goes f places ts us xs ys all.1 r) (stage_goes shows f t u all.0)
    put_goes f (p ∷ places) _ _ xs ys all r = absurd all

    -- with groups that went on put back the nodes go on
    pub fill_goes : (f : FilesShown) (gs hs : List (Grouped M)) (nodes : List (Actor M))
        → AllZip (GroupGoesOn shows) gs hs → NodesGoOn shows f f (fill gs nodes) (fill hs nodes)
    fill_goes f [] [] nodes all = nodes_refl shows f nodes
    fill_goes f (g ∷ gs) (h ∷ hs) nodes all =
        let one = all.0 in
        subst (λ (ps : List ℕ). NodesGoOn shows f f (put_all g.places g.stages (fill gs nodes))
        (put_all ps h.stages (fill hs nodes))) (sym one.places)
        (put_goes f g.places g.stages h.stages (fill gs nodes) (fill hs nodes) one.stages
        (fill_goes f gs hs nodes all.1))
    fill_goes f _ _ nodes all = absurd all

  -- the places of groups that go on are theirs
  pub still_out : (shows : M → Shown) (nodes : List (Actor M)) (gs hs : List (Grouped M))
      → AllZip (GroupGoesOn shows) gs hs → AreOut nodes gs → AreOut nodes hs
  still_out shows nodes [] [] all out = tt
  still_out shows nodes (g ∷ gs) (h ∷ hs) all out =
      let one = all.0 in (
        subst (λ (ps : List ℕ). AllByRecursion (IsFree nodes) ps) (sym one.places) out.0,
        still_out shows nodes gs hs all.1 out.1,
      )
  still_out shows nodes _ _ all out = absurd all

  -- ---- what is so of each node

  put_each : (P : ℕ → Actor M → Type 0) → ((k : ℕ) (t : Staged M) → P k (an.Stage t))
      → (places : List ℕ) (stages : List (Staged M)) (nodes : List (Actor M))
      → ((k : ℕ) → P k (actor_at nodes k)) → (k : ℕ)
      → P k (actor_at (put_all places stages nodes) k)
  put_each P staged [] stages nodes h = h
  put_each P staged (p ∷ places) [] nodes h = h
  put_each P staged (p ∷ places) (t ∷ stages) nodes h =
      each_set P an.Lent (put_all places stages nodes) p (an.Stage t) (λ k. staged k t)
      (put_each P staged places stages nodes h)

  -- what is so of each node that is here, and of each stage, is so of each with the groups put back
  pub fill_each : (P : ℕ → Actor M → Type 0) → ((k : ℕ) (t : Staged M) → P k (an.Stage t))
      → (groups : List (Grouped M)) (nodes : List (Actor M)) → ((k : ℕ) → P k (actor_at nodes k))
      → (k : ℕ) → P k (actor_at (fill groups nodes) k)
  fill_each P staged [] nodes h = h
  fill_each P staged (g ∷ groups) nodes h =
      put_each P staged g.places g.stages (fill groups nodes) (fill_each P staged groups nodes h)

  -- ---- open files

  here_opened : (f : FilesShown) (a : Actor M) → (IsHere a → HasFile f a) → HasFile f a
  here_opened f an.Lent h = tt
  here_opened f _ h = h tt

  -- and the other way round
  pub left_opened : (f : FilesShown) (groups : List (Grouped M)) (nodes : List (Actor M))
      → AreOut nodes groups → ((k : ℕ) → HasFile f (actor_at (fill groups nodes) k)) → (k : ℕ)
      → HasFile f (actor_at nodes k)
  left_opened f groups nodes out h k = here_opened f (actor_at nodes k)
      (λ here. subst (HasFile f) (fill_at nodes k here groups out) (h k))
