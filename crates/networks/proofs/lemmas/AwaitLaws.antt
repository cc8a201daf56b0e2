-- The pipes to which a stage owes an item, branch by branch, and the first of them.
use Rattle.std.proofs.Common.{◌≡◌, ℕ, zero, suc, ◌+◌, ◌<◌, ◌↔◌, List, [], ◌∷◌, ◌++◌, Bool, true}
use Rattle.std.proofs.Common.{false, Option, Some, None, take, length, get_or, refl, ap, ◌∙◌, sym}
use Rattle.std.proofs.Common.{subst, subst₂, arith, take_all, inl, if◌then◌else◌}
use Rattle.std.specs.Prelude.{slice_get, unwrap_or, is_some, IfSome}
use Rattle.std.specs.List.{AllByRecursion}
use Rattle.std.proofs.lemmas.Bool.{false≢true}
use Rattle.std.proofs.lemmas.Option.{slice_get-get_or, slice_get_within}
use Rattle.std.proofs.lemmas.List.{append-nil}
use Rattle.std.specs.Option.{option_or}
use Rattle.machine.specs.Law.{Shown}
use Rattle.bounded_pipe.specs.Ends.{Writing, Reading}
use Rattle.bounded_pipe.specs.Pipes.{IsFull}
use Rattle.collector.specs.Files.{FilesShown}
use Rattle.collector.specs.Nodes.{SourceShown}
use Rattle.splice_tee.specs.BranchStates.{served_at}
use Rattle.splice_tee.specs.declared.branches.Served.{Served}
use Rattle.stages.specs.Stages.{StagePart}
use Rattle.stages.specs.Owed.{branch_owed}
use Rattle.stages.specs.inner.Staged.{Staged}
use Rattle.network_laws.specs.State.{State}
use Rattle.network_laws.specs.Waits.{owed_to, IsFullAt}
use Rattle.network_nodes.specs.declared.actor.Actor.{Actor}
use Rattle.network_nodes.specs.declared.actor.Actor.TheVariants as an
use Rattle.network_nodes.specs.declared.actor.Link.{Link}
use Rattle.network_nodes.specs.inner.Actors.{no_writing, outs_of, out_pipes, out_end, out_at, in_at}
use Rattle.network_nodes.specs.inner.Actors.{actor_at}
use Rattle.networks.specs.Networks.{AreWired, writing_by, reading_by, state_by}
use Rattle.networks.specs.NodeWaits.{IsFirstOfFull}

next_place : (i : ℕ) → suc i ≡ i + 1
next_place i = omega arith

no_place : (p b : ℕ) → slice_get {X = ℕ} [] b ≡ Some p → ⊥
no_place p b e = false≢true (ap (λ o. is_some o) e)

-- one more after a list of which all hold
all_more : (P : ℕ → Type 0) (l : List ℕ) (p : ℕ) → AllByRecursion P l → P p
    → AllByRecursion P (l ++ p ∷ [])
all_more P [] p all one = (one, tt)
all_more P (q ∷ l) p all one = (all.0, all_more P l p all.1 one)

all_rest : (P : ℕ → Type 0) (o : Bool) (q : ℕ) (l : List ℕ)
    → AllByRecursion P (if o then q ∷ l else l) → AllByRecursion P l
all_rest P true q l all = all.1
all_rest P false q l all = all

lifted : (o : Bool) (q : ℕ) (l m t : List ℕ) → l ≡ m ++ t
    → (if o then q ∷ l else l) ≡ (if o then q ∷ m else m) ++ t
lifted true q l m t e = ap (λ (k : List ℕ). q ∷ k) e
lifted false q l m t e = e

-- the first of these pipes, each of which is full
abbrev pub IsFirstSoFar : State → ℕ → List ℕ → Option ℕ → Type 0
IsFirstSoFar st size owed None = owed ≡ []
IsFirstSoFar st size owed (Some p) = (more : List ℕ) × (owed ≡ p ∷ more)
    × AllByRecursion (IsFullAt st size) owed

-- what is so of the values of two options is so of that of the first that has one
pub or_within : (P : ℕ → Type 0) (first : Option ℕ) (p : ℕ) → IfSome first P → P p
    → IfSome (option_or first (Some p)) P
or_within P None p h here = here
or_within P (Some q) p h here = h

module _ (st : State) (x : StagePart) where
  -- the pipes to which an item is owed among the first branches
  abbrev pub so_far : List ℕ → List Served → ℕ → List ℕ
  so_far branches served i = owed_to st x (take i branches) (take i served)

  owed_here : (branches : List ℕ) (served : List Served) (i p : ℕ) (b : Bool)
      → slice_get branches i ≡ Some p → i < length served
      → branch_owed x (st.writing p) (served_at served i) ≡ b
      → so_far branches served (suc i) ≡ so_far branches served i ++ (if b then p ∷ [] else [])
  owed_here [] served i p b at lt e = absurd (no_place p i at)
  owed_here (q ∷ branches) [] i p b at lt e = absurd (omega (arith, lt))
  owed_here (q ∷ branches) (s ∷ served) zero p b at lt e =
      let same : q ≡ p = ap (λ (o : Option ℕ). unwrap_or o q) at in
      subst (λ (r : ℕ). (if branch_owed x (st.writing r) s then r ∷ [] else [])
      ≡ (if b then p ∷ [] else [])) (sym same) (ap (λ (c : Bool). if c then p ∷ [] else []) e)
  owed_here (q ∷ branches) (s ∷ served) (suc i) p b at lt e =
      lifted (branch_owed x (st.writing q) s) q (so_far branches served (suc i))
      (so_far branches served i) (if b then p ∷ [] else [])
      (owed_here branches served i p b at (omega (arith, lt)) e)

  -- a branch to which nothing is owed
  pub first_passed : (size : ℕ) (branches : List ℕ) (served : List Served) (i p : ℕ)
      (first : Option ℕ) → slice_get branches i ≡ Some p → i < length served
      → branch_owed x (st.writing p) (served_at served i) ≡ false
      → IsFirstSoFar st size (so_far branches served i) first
      → IsFirstSoFar st size (so_far branches served (i + 1)) first
  first_passed size branches served i p first at lt e h =
      subst (λ (n : ℕ). IsFirstSoFar st size (so_far branches served n) first) (next_place i)
      (subst (λ (l : List ℕ). IsFirstSoFar st size l first)
      (sym (owed_here branches served i p false at lt e
      ∙ append-nil (so_far branches served i))) h)

  -- a full one to which an item is owed
  first_next : (size : ℕ) (l : List ℕ) (p : ℕ) (first next : Option ℕ) → IsFullAt st size p
      → IsFirstSoFar st size l first → next ≡ option_or first (Some p)
      → IsFirstSoFar st size (l ++ p ∷ []) next
  first_next size l p None next full h is =
      subst₂ (λ (k : List ℕ) (o : Option ℕ). IsFirstSoFar st size (k ++ p ∷ []) o) (sym h) (sym is)
      ([], refl, (full, tt))
  first_next size l p (Some q) next full h is =
      subst (λ (o : Option ℕ). IsFirstSoFar st size (l ++ p ∷ []) o) (sym is) (
        h.0 ++ p ∷ [],
        ap (λ (k : List ℕ). k ++ p ∷ []) h.1,
        all_more (IsFullAt st size) l p h.2 full,
      )

  pub first_added : (size : ℕ) (branches : List ℕ) (served : List Served) (i p : ℕ)
      (first next : Option ℕ) → slice_get branches i ≡ Some p → i < length served
      → branch_owed x (st.writing p) (served_at served i) ≡ true → IsFullAt st size p
      → next ≡ option_or first (Some p)
      → IsFirstSoFar st size (so_far branches served i) first
      → IsFirstSoFar st size (so_far branches served (i + 1)) next
  first_added size branches served i p first next at lt e full is h =
      subst (λ (n : ℕ). IsFirstSoFar st size (so_far branches served n) next) (next_place i)
      (subst (λ (l : List ℕ). IsFirstSoFar st size l next)
      (sym (owed_here branches served i p true at lt e))
      (first_next size (so_far branches served i) p first next full h is))

  -- all branches
  pub first_of_all : (size : ℕ) (branches : List ℕ) (served : List Served) (i : ℕ)
      (first : Option ℕ) → i ≡ length branches → length branches ≡ length served
      → IsFirstSoFar st size (so_far branches served i) first
      → IsFirstOfFull st size (owed_to st x branches served) first
  first_of_all size branches served i first count same h =
      whole first
      (subst₂ (λ (bs : List ℕ) (ss : List Served). IsFirstSoFar st size
      (owed_to st x bs ss) first)
      (take_all i branches (omega (arith, count)))
      (take_all i served (omega (arith, count, same))) h)
    where
      whole : (f : Option ℕ) → IsFirstSoFar st size (owed_to st x branches served) f
          → IsFirstOfFull st size (owed_to st x branches served) f
      whole None k = inl k
      whole (Some p) k = k

  -- a pipe to which an item is owed is one of them
  pub owed_in : (P : ℕ → Type 0) (branches : List ℕ) (served : List Served) (i p : ℕ)
      → slice_get branches i ≡ Some p → i < length served
      → branch_owed x (st.writing p) (served_at served i) ≡ true
      → AllByRecursion P (owed_to st x branches served) → P p
  owed_in P [] served i p at lt e all = absurd (no_place p i at)
  owed_in P (q ∷ branches) [] i p at lt e all = absurd (omega (arith, lt))
  owed_in P (q ∷ branches) (s ∷ served) zero p at lt e all =
      let same : q ≡ p = ap (λ (o : Option ℕ). unwrap_or o q) at in
      let owed : branch_owed x (st.writing q) s ≡ true =
      subst (λ (r : ℕ). branch_owed x (st.writing r) s ≡ true) (sym same) e in
      let here : AllByRecursion P (q ∷ owed_to st x branches served) =
      subst (λ (c : Bool). AllByRecursion P
      (if c then q ∷ owed_to st x branches served else owed_to st x branches served)) owed
      all in
      subst P same here.0
  owed_in P (q ∷ branches) (s ∷ served) (suc i) p at lt e all =
      owed_in P branches served i p at (omega (arith, lt)) e
      (all_rest P (branch_owed x (st.writing q) s) q (owed_to st x branches served) all)

-- ---- the stage that is the node k of a network

module _ {M : Type 0} (nodes : List (Actor M)) (pipes : List Link) (wired : AreWired nodes pipes)
    (k : ℕ) (t : Staged M) (here : actor_at nodes k ≡ an.Stage t) where
  -- the pipe of a branch
  pub link_of : (b p : ℕ) → slice_get t.outlet.pipes b ≡ Some p
      → (l : Link) × (slice_get pipes p ≡ Some l) × (l.writer ≡ k) × (l.branch ≡ b)
  link_of b p at =
      let n = wired.numbered k in
      n.outs b p (ap (λ (a : Actor M). slice_get (out_pipes a) b) here ∙ at)

  pub pipe_within : (b p : ℕ) → slice_get t.outlet.pipes b ≡ Some p → p < length pipes
  pipe_within b p at = let l = link_of b p at in slice_get_within pipes p l.0 l.1

  same_count : length t.outlet.ends ≡ length t.outlet.pipes
  same_count =
      let n = wired.numbered k in
      subst (λ (a : Actor M). length (outs_of a) ≡ length (out_pipes a)) here n.out_count

  module _ (shows : M → Shown) (files : FilesShown) where
    abbrev st : State
    st = state_by shows nodes pipes files

    writing_at : (b p : ℕ) → slice_get t.outlet.pipes b ≡ Some p
        → st.writing p ≡ get_or t.outlet.ends b no_writing
    writing_at b p at =
        let l = link_of b p at in
        ap (λ (o : Option Link). writing_by nodes o) l.1
        ∙ (ap (λ (j : ℕ). out_end (actor_at nodes j) l.0.branch) l.2
        ∙ (ap (λ (i : ℕ). out_end (actor_at nodes k) i) l.3
        ∙ ap (λ (a : Actor M). out_end a b) here))

    pub end_at : (b p : ℕ) → slice_get t.outlet.pipes b ≡ Some p
        → slice_get t.outlet.ends b ≡ Some (st.writing p)
    end_at b p at =
        slice_get-get_or t.outlet.ends b no_writing
        (omega (arith, same_count, slice_get_within t.outlet.pipes b p at))
        ∙ ap (λ (w : Writing). Some w) (sym (writing_at b p at))

    pub full_by : (p : ℕ) (l : Link) (size : ℕ) → slice_get pipes p ≡ Some l
        → IsFull size (out_at nodes l) (in_at nodes l) ↔ IsFullAt st size p
    full_by p l size e =
        let w : st.writing p ≡ out_at nodes l = ap (λ (o : Option Link). writing_by nodes o) e in
        let r : st.reading p ≡ in_at nodes l = ap (λ (o : Option Link). reading_by nodes o) e in (
          λ h. subst₂ (λ (a : Writing) (b : Reading). IsFull size a b) (sym w) (sym r) h,
          λ h. subst₂ (λ (a : Writing) (b : Reading). IsFull size a b) w r h,
        )

-- ---- the source that is the node k of a network

pub owed_some : (o : Bool) (n m : ℕ) → Some n ≡ (if o then Some m else None) → (o ≡ true) × (n ≡ m)
owed_some true n m e = (refl, ap (λ (x : Option ℕ). unwrap_or x n) e)
owed_some false n m e = absurd (false≢true (sym (ap (λ (x : Option ℕ). is_some x) e)))

module _ {M : Type 0} (nodes : List (Actor M)) (pipes : List Link) (wired : AreWired nodes pipes)
    (k : ℕ) (x : SourceShown) (here : actor_at nodes k ≡ an.Source x) where
  pub source_link : (l : Link) × (slice_get pipes x.pipe ≡ Some l) × (l.writer ≡ k) × (l.branch ≡ 0)
  source_link =
      let n = wired.numbered k in
      n.outs 0 x.pipe (ap (λ (a : Actor M). slice_get (out_pipes a) 0) here)

  pub source_within : x.pipe < length pipes
  source_within = let l = source_link in slice_get_within pipes x.pipe l.0 l.1

  pub pipe_of_source : (q : ℕ) → q ≡ x.pipe → q < length pipes
  pipe_of_source q e = subst (λ (n : ℕ). n < length pipes) (sym e) source_within

  module _ (shows : M → Shown) (files : FilesShown) where
    pub source_writing : (let st = state_by shows nodes pipes files in st.writing x.pipe) ≡ x.end
    source_writing =
        let l = source_link in
        ap (λ (o : Option Link). writing_by nodes o) l.1
        ∙ (ap (λ (j : ℕ). out_end (actor_at nodes j) l.0.branch) l.2
        ∙ (ap (λ (i : ℕ). out_end (actor_at nodes k) i) l.3
        ∙ ap (λ (a : Actor M). out_end a 0) here))

    pub source_full : (p : ℕ) (l : Link) (size : ℕ) → slice_get pipes p ≡ Some l
        → IsFull size (out_at nodes l) (in_at nodes l)
        ↔ IsFullAt (state_by shows nodes pipes files) size p
    source_full p l size e =
        let st = state_by shows nodes pipes files in
        let w : st.writing p ≡ out_at nodes l = ap (λ (o : Option Link). writing_by nodes o) e in
        let r : st.reading p ≡ in_at nodes l = ap (λ (o : Option Link). reading_by nodes o) e in (
          λ h. subst₂ (λ (a : Writing) (b : Reading). IsFull size a b) (sym w) (sym r) h,
          λ h. subst₂ (λ (a : Writing) (b : Reading). IsFull size a b) w r h,
        )
