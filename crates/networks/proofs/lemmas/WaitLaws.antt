-- Which full pipe a node of a network waits for: a stage or a source, by what a look at it tells.
use Rattle.std.proofs.Common.{◌≡◌, ℕ, zero, suc, ◌<◌, ◌↔◌, List, [], ◌∷◌, Bool, true, Option, Some}
use Rattle.std.proofs.Common.{None, length, get_or, sym, ap, ◌∙◌, subst, subst₂, inl, inr, arith}
use Rattle.std.specs.Prelude.{slice_get, unwrap_or, is_some, is_none}
use Rattle.std.specs.List.{AllByRecursion}
use Rattle.std.proofs.lemmas.Bool.{false≢true}
use Rattle.machine.specs.Law.{Shown}
use Rattle.machine.specs.Whole.{StreamAnswer, WholeAnswer}
use Rattle.machine.specs.declared.protocol.Want.TheVariants.{Finished}
use Rattle.collector.specs.Files.{FilesShown}
use Rattle.collector.specs.Nodes.{SourceShown, SinkShown, SourceFits, source_part, read_by}
use Rattle.collector.specs.Sources.{SourcePart, SinkPart, source_owes, held_size}
use Rattle.run_types.specs.declared.node_state.NodeState.TheVariants.{Running}
use Rattle.graphs.specs.Graph.{GraphNode, node_at, Writes, present, Source, Stage}
use Rattle.stages.specs.Stages.{StagePart}
use Rattle.stages.specs.Owed.{owed_size}
use Rattle.stages.specs.inner.Staged.{Staged}
use Rattle.stages.specs.inner.Steps.{InCase, part}
use Rattle.network_laws.specs.State.{OfSource, OfStage, OfSink, Setup, State, node_state_of}
use Rattle.network_laws.specs.State.{answer_of, told, gives_nothing}
use Rattle.network_laws.specs.Waits.{owed_to, IsFullAt, StageWaitsFull, FullWait, SourceFull}
use Rattle.network_laws.specs.Waits.{StageFull}
use Rattle.network_nodes.specs.declared.actor.Actor.{Actor}
use Rattle.network_nodes.specs.declared.actor.Actor.TheVariants as an
use Rattle.network_nodes.specs.inner.Actors.{out_pipes, actor_at, node_state_at}
use Rattle.networks.specs.Networks.{Networked, IsRight, FitsAt, network_state, part_of, FitsSource}
use Rattle.networks.specs.Networks.{FitsStage}
use Rattle.networks.specs.NodeWaits.{IsFirstOfFull, IsSourceWait, WaitsFull}
use Rattle.networks.proofs.EndLaws.{state_is}
use Rattle.networks.proofs.StateLaws.{link_is, writer_is, pipe_count}
use Rattle.networks.proofs.lemmas.AwaitLaws.{source_link, source_within}

same_first : (p q : ℕ) (m n : List ℕ) → p ∷ m ≡ q ∷ n → p ≡ q
same_first p q m n e = ap (λ (l : List ℕ). get_or l 0 p) e

some_first : (p : ℕ) (m : List ℕ) → [] ≡ p ∷ m → ⊥
some_first p m e = false≢true (ap (λ (l : List ℕ). is_some (slice_get l 0)) e)

-- the first of the pipes that are owed an item, each of which is full, is the one that the stage
-- waits for
pub stage_waits : (st : State) (x : StagePart) (branches : List ℕ) (r : Option ℕ) (p : ℕ)
    → (x.machine.wanted ≡ Finished → x.hung_up ≡ true)
    → IsFirstOfFull st (owed_size x) (owed_to st x branches x.served) r
    → (r ≡ Some p) ↔ StageWaitsFull st x branches p
stage_waits st x branches None p ready (inl none) = (
  λ e. absurd (false≢true (ap (λ (o : Option ℕ). is_some o) e)),
  λ w. absurd (some_first p w.0 (sym none ∙ w.1)),
)
stage_waits st x branches None p ready (inr notall) = (
  λ e. absurd (false≢true (ap (λ (o : Option ℕ). is_some o) e)),
  λ w. absurd (notall (subst (λ (l : List ℕ). AllByRecursion (IsFullAt st (owed_size x)) l)
      (sym w.1) w.2)),
)
stage_waits st x branches (Some q) p ready first = (
  λ e.
      let same : q ≡ p = ap (λ (o : Option ℕ). unwrap_or o q) e in
      let owed = subst (λ (i : ℕ). owed_to st x branches x.served ≡ i ∷ first.0) same first.1 in (
        first.0,
        owed,
        subst (λ (l : List ℕ). AllByRecursion (IsFullAt st (owed_size x)) l) owed
            first.2,
        ready,
      ),
  λ w. ap (λ (i : ℕ). Some i) (same_first q p first.0 w.0 (sym first.1 ∙ w.1)),
)

-- ---- of a network that is right

single : (q b p : ℕ) → slice_get (q ∷ []) b ≡ Some p → p ≡ q
single q zero p e = sym (ap (λ (o : Option ℕ). unwrap_or o q) e)
single q (suc b) p e = absurd (false≢true (ap (λ (o : Option ℕ). is_some o) e))

module _ {M : Type 0} (shows : M → Shown) (s : Setup) (files : FilesShown) (n : Networked M)
    (right : IsRight shows s n files) (k : ℕ) (lt : k < length n.nodes) where
  abbrev st : State
  st = network_state shows n files

  own_pipe : (x : SourceShown) → actor_at n.nodes k ≡ an.Source x → (p : ℕ)
      → Writes s.graph k p ↔ (p ≡ x.pipe)
  own_pipe x here p = (
    λ w.
        let l = link_is n p (let c = pipe_count s.graph n right.graph in omega (arith, c, w.0)) in
        let wired = right.joined.wired in
        let place = wired.placed p l.0 l.1 in
        let mine : l.0.writer ≡ k = sym (writer_is s.graph n right.graph p l.0 l.1) ∙ w.1 in
        single x.pipe l.0.branch p
        (subst (λ (a : Actor M). slice_get (out_pipes a) l.0.branch ≡ Some p) here
        (subst (λ (j : ℕ). slice_get (out_pipes (actor_at n.nodes j)) l.0.branch
        ≡ Some p) mine place.out)),
    λ e.
        let l = source_link n.nodes n.pipes right.joined.wired k x here in
        subst (λ (q : ℕ). Writes s.graph k q) (sym e) (
          (let c = pipe_count s.graph n right.graph in
              let w = source_within n.nodes n.pipes right.joined.wired k x here in
              omega (arith, c, w)),
          writer_is s.graph n right.graph x.pipe l.0 l.1 ∙ l.2,
        ),
  )

  by_pipe : (x : SourceShown) → actor_at n.nodes k ≡ an.Source x
      → (y : SourcePart) (b : Bool) (r : Option ℕ) (p : ℕ) → is_none x.file ≡ b
      → ((r ≡ Some p) ↔ IsSourceWait st (is_none x.file) y x.pipe p)
      → (r ≡ Some p) ↔ (Writes s.graph k p × (source_owes b y (st.writing p) ≡ true)
      × IsFullAt st (held_size y.held) p)
  by_pipe x here y b r p is same = (
    λ e. let w = same.0 e in (
      (own_pipe x here p).1 w.0,
      subst₂ (λ (c : Bool) (q : ℕ). source_owes c y (st.writing q) ≡ true) is (sym w.0) w.1,
      subst (λ (q : ℕ). IsFullAt st (held_size y.held) q) (sym w.0) w.2,
    ),
    λ w. let e = (own_pipe x here p).0 w.0 in
        same.1 (
          e,
          subst₂ (λ (c : Bool) (q : ℕ). source_owes c y (st.writing q) ≡ true)
              (sym is) e w.1,
          subst (λ (q : ℕ). IsFullAt st (held_size y.held) q) e w.2,
        ),
  )

  -- what a wait for a full pipe says of a source, and of a stage
  source_full : {empty : Bool} {y : SourcePart} (p : ℕ)
      → FullWait s st k (Some (Source empty)) (OfSource y) p
      → Writes s.graph k p × (source_owes (gives_nothing s k empty) y (st.writing p) ≡ true)
      × IsFullAt st (held_size y.held) p
  source_full p (SourceFull own owes full) = (own, owes, full)

  stage_full : {filter : WholeAnswer} {inputs : List ℕ} {branches : List (Option ℕ)} {x : StagePart}
      (p : ℕ) → FullWait s st k (Some (Stage filter inputs branches)) (OfStage x) p
      → StageWaitsFull st x (present branches) p
  stage_full p (StageFull w) = w

  source_arm : (x : SourceShown) → actor_at n.nodes k ≡ an.Source x → (o : Option GraphNode)
      → FitsAt shows s files k o (an.Source x) → (r : Option ℕ) (p : ℕ)
      → ((r ≡ Some p) ↔ IsSourceWait st (is_none x.file)
      (source_part (read_by files x.file).bytes x) x.pipe p)
      → (r ≡ Some p) ↔ FullWait s st k o (OfSource (source_part (read_by files x.file).bytes x)) p
  source_arm x here _ (FitsSource {empty} file fits block) r p same =
      let by = by_pipe x here (source_part (read_by files x.file).bytes x)
      (gives_nothing s k empty) r p file same in
      (λ e. let w = by.0 e in SourceFull w.0 w.1 w.2, λ w. by.1 (source_full p w))

  stage_arm : (t : Staged M) (o : Option GraphNode) → FitsAt shows s files k o (an.Stage t)
      → (r : Option ℕ) (p : ℕ)
      → ((r ≡ Some p) ↔ StageWaitsFull st (part shows t) t.outlet.pipes p)
      → (r ≡ Some p) ↔ FullWait s st k o (OfStage (part shows t)) p
  stage_arm t _ (FitsStage ins outs case block) r p same = (
    λ e. StageFull (subst (λ (l : List ℕ). StageWaitsFull st (part shows t) l p) outs (same.0 e)),
    λ w. same.1 (subst (λ (l : List ℕ). StageWaitsFull st (part shows t) l p) (sym outs)
        (stage_full p w)),
  )

  -- a node that runs, if its wait is that of its part
  pub node_waits : (a : Actor M) → actor_at n.nodes k ≡ a → node_state_at a ≡ Running
      → (r : Option ℕ) (p : ℕ)
      → ((r ≡ Some p) ↔ FullWait s st k (node_at s.graph k) (part_of shows files a) p)
      → (r ≡ Some p) ↔ WaitsFull s st k p
  node_waits a here runs r p same =
      let whole : ((r ≡ Some p) ↔ FullWait s st k (node_at s.graph k)
      (part_of shows files (actor_at n.nodes k)) p) =
      subst (λ (b : Actor M). (r ≡ Some p)
      ↔ FullWait s st k (node_at s.graph k) (part_of shows files b) p) (sym here) same in
      let in_state : node_state_of (part_of shows files (actor_at n.nodes k)) ≡ Running =
      state_is shows files (actor_at n.nodes k) ∙ (ap node_state_at here ∙ runs) in
      let of = right.graph in (
        λ e. ((omega (arith, lt, of.count), in_state), whole.0 e),
        λ w. whole.1 w.1,
      )

  -- a sink waits for no full pipe
  none_full : {o : Option GraphNode} {z : SinkPart} {p : ℕ} → FullWait s st k o (OfSink z) p → ⊥
  none_full w = elim w [ ]

  pub sink_node : (y : SinkShown) → actor_at n.nodes k ≡ an.Sink y → (r : Option ℕ) (p : ℕ)
      → r ≡ None → (r ≡ Some p) ↔ WaitsFull s st k p
  sink_node y here r p none = (
    λ e. absurd (false≢true (ap (λ (o : Option ℕ). is_some o) (sym none ∙ e))),
    λ w. absurd (none_full
        (subst (λ (a : Actor M). FullWait s st k (node_at s.graph k) (part_of shows files a) p) here
        w.1)),
  )

  -- a source, and a stage
  pub source_node : (x : SourceShown) → actor_at n.nodes k ≡ an.Source x → x.state ≡ Running
      → (r : Option ℕ) (p : ℕ)
      → ((r ≡ Some p) ↔ IsSourceWait st (is_none x.file)
      (source_part (read_by files x.file).bytes x) x.pipe p) → (r ≡ Some p) ↔ WaitsFull s st k p
  source_node x here runs r p same =
      node_waits (an.Source x) here runs r p
      (source_arm x here (node_at s.graph k)
      (subst (λ (a : Actor M). FitsAt shows s files k (node_at s.graph k) a) here
      (right.fits k lt)) r p same)

  pub stage_node : (t : Staged M) → actor_at n.nodes k ≡ an.Stage t → t.state ≡ Running
      → (r : Option ℕ) (p : ℕ)
      → ((r ≡ Some p) ↔ StageWaitsFull st (part shows t) t.outlet.pipes p)
      → (r ≡ Some p) ↔ WaitsFull s st k p
  stage_node t here runs r p same =
      node_waits (an.Stage t) here runs r p
      (stage_arm t (node_at s.graph k)
      (subst (λ (a : Actor M). FitsAt shows s files k (node_at s.graph k) a) here
      (right.fits k lt)) r p same)

module _ {M : Type 0} (shows : M → Shown) (s : Setup) (files : FilesShown) (k : ℕ) where
  pub fits_source : (x : SourceShown) (o : Option GraphNode)
      → FitsAt shows s files k o (an.Source x) → SourceFits (read_by files x.file) x
  fits_source x o (FitsSource file fits block) = fits

  pub fits_stage : (t : Staged M) (o : Option GraphNode) → FitsAt shows s files k o (an.Stage t)
      → (answer : StreamAnswer) × InCase shows answer t
  fits_stage t o (FitsStage {filter} {inputs} ins outs case block) =
      (answer_of filter (told s inputs), case)
