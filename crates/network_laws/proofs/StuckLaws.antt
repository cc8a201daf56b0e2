-- If a node waits, the node at the other end runs too: so a forest is never stuck.
use Rattle.std.proofs.Common.{◌≡◌, ℕ, zero, suc, ◌+◌, ◌<◌, ◌≤◌, ◌⊎◌, Bool, true, false, cond, List}
use Rattle.std.proofs.Common.{[], ◌∷◌, length, map, Option, Some, None, slice_get, refl, sym, ap}
use Rattle.std.proofs.Common.{◌∙◌, subst, inl, inr, ⊎_elim, arith}
use Rattle.std.specs.List.{All, AllByRecursion}
use Rattle.std.proofs.lemmas.Bool.{false≢true, cases_Bool, cases_order}
use Rattle.machine.specs.Pieces.{IsPieceLong}
use Rattle.machine.specs.Whole.{WholeAnswer}
use Rattle.machine.specs.declared.piece.Item.{Item}
use Rattle.machine.specs.declared.piece.Item.TheVariants.{Bytes, Close}
use Rattle.machine.specs.declared.protocol.Want.{Want}
use Rattle.bounded_pipe.specs.Sizes.{size_of}
use Rattle.bounded_pipe.specs.Ends.{Writing}
use Rattle.bounded_pipe.specs.Pipes.{items_put, items_taken, is_closed}
use Rattle.graphs.specs.Graph.{GraphNode, Source, Stage, Sink, node_at, writer, reader, IsPipe}
use Rattle.graphs.specs.Graph.{Writes, Reads, IsAmong, present, IsPlan, LeadsLater, IsForest}
use Rattle.collector.specs.Sources.{SourcePart, SourceCase, SinkCase, IsHeldLong, held_size}
use Rattle.splice_tee.specs.declared.branches.Served.{Served}
use Rattle.stages.specs.Stages.{StagePart, StageKeeps, StageCase, FrontIs, front_size}
use Rattle.network_laws.specs.State.{Part, Setup, State, NodeCase, node_state_of, IsFailed, told}
use Rattle.network_laws.specs.State.{answer_of, NoNode, CaseOfSource, CaseOfStage, CaseOfSink}
use Rattle.stages.specs.Owed.{branch_owed, is_front_owed, first_size, owed_size}
use Rattle.network_laws.specs.Waits.{owed_to, IsFullAt, IsBareAt, FullWait, EmptyWait, WaitsFor}
use Rattle.network_laws.specs.Waits.{IsRunning, IsStuck, SourceFull, StageFull, StageEmpty}
use Rattle.network_laws.specs.Waits.{SinkEmpty}
use Rattle.network_laws.specs.declared.outcome.Waiting.{Waiting as Named}
use Rattle.network_laws.specs.Outcome.{other_end, IsNamed}
use Rattle.network_laws.specs.Circles.{own_end}
use Rattle.network_laws.specs.Laws.{NoForestIsStuck, SomeWaitIsFull, StuckWaitsLeadOn}
use Rattle.run_types.specs.declared.node_state.NodeState.{NodeState}
use Rattle.run_types.specs.declared.node_state.NodeState.TheVariants.{Running, Ended, Broken}
use Rattle.run_types.specs.declared.node_state.NodeState.TheVariants.{Failed}
use Rattle.network_laws.proofs.lemmas.TakeLaws.{closed_whole}
use Rattle.network_laws.proofs.lemmas.BranchLaws.{at_end}
use Rattle.network_laws.proofs.lemmas.DeterminacyLaws.{no_node}

-- a stage owes to its own branches
owed_is_branch : (st : State) (x : StagePart) (p : ℕ) (more branches : List ℕ)
    (served : List Served) → owed_to st x branches served ≡ p ∷ more → IsAmong p branches
owed_is_branch st x p more (q ∷ branches) (s ∷ served) e =
    by_case (branch_owed x (st.writing q) s) e (owed_is_branch st x p more branches served)
  where
    by_case : (t : Bool) → cond t (q ∷ owed_to st x branches served) (owed_to st x branches served)
        ≡ p ∷ more → (owed_to st x branches served ≡ p ∷ more → IsAmong p branches)
        → (p ≡ q) ⊎ IsAmong p branches
    by_case true h ih = inl (cc h)
    by_case false h ih = inr (ih h)
owed_is_branch st x p more _ _ e = absurd (cc e)

got_is_input : (p i : ℕ) (inputs : List ℕ) → slice_get inputs i ≡ Some p → IsAmong p inputs
got_is_input p i [] e = absurd (grind (arith, e))
got_is_input p zero (q ∷ inputs) e = inl (cc e)
got_is_input p (suc i) (q ∷ inputs) e = inr (got_is_input p i inputs e)

-- what a source holds, and what a stage owes, is no longer than the block
held_long : (block : ℕ) (held : Option (List ℕ)) → IsHeldLong block held → held_size held ≤ block
held_long block None h = omega arith
held_long block (Some piece) h = h.1

front_long : (block : ℕ) (want : Want) (owed : List (List ℕ)) (front : Option Item)
    → FrontIs block want owed front → front_size front ≤ block
front_long block want owed None f = omega arith
front_long block want owed (Some (Bytes piece)) f = f.1
front_long block want owed (Some Close) f = omega arith

first_long : (block : ℕ) (owed : List (List ℕ)) → All (IsPieceLong block) owed
    → first_size owed ≤ block
first_long block [] a = omega arith
first_long block (piece ∷ owed) a =
    let long : IsPieceLong block piece = a 0 piece (omega (arith)) in
    long.1

owed_long : (block : ℕ) (want : Want) (x : StagePart) → FrontIs block want x.owed x.front
    → All (IsPieceLong block) x.owed → owed_size x ≤ block
owed_long block want x f a = by_case (is_front_owed x)
  where
    by_case : (b : Bool) → cond b (front_size x.front) (first_size x.owed) ≤ block
    by_case true = front_long block want x.owed x.front f
    by_case false = first_long block x.owed a

module _ (s : Setup) (st : State) (plan : IsPlan s.graph) (stuck : IsStuck s st) where
  -- it is full for an item that is no longer than the block
  abbrev IsFullNow : ℕ → Type 0
  IsFullNow p = (size : ℕ) × (size ≤ s.block) × IsFullAt st size p

  -- if all that was put was taken, no such item finds the pipe full
  never_full : (p size : ℕ) → IsPipe s.graph p → size ≤ s.block → IsFullAt st size p
      → items_taken (st.reading p) ≡ items_put (st.writing p) → ⊥
  never_full p size is low f e =
      let l = ap (λ (x : List Item). length x) e in
      let b = ap (λ (x : List Item). size_of x) e in
      let room = stuck.room p is in
      let bytes = stuck.bytes p is in
      ⊎_elim (λ full. omega (arith, room, full, l))
      (λ full. omega (arith, bytes, full, low, b)) f.full

  -- a pipe is not full and bare at once
  clash : (p : ℕ) → IsPipe s.graph p → IsFullNow p → IsBareAt st p → ⊥
  clash p is f b = never_full p f.0 is f.1 f.2 b.bare

  -- a noted hang-up happened
  noted_is : (p : ℕ) → IsPipe s.graph p → (st.reading p).hung_up ≡ false
      → (st.writing p).noted ≡ true → ⊥
  noted_is p is h n = false≢true (sym h ∙ (stuck.lawful.pipes p is).ends.noted n)

  -- the reader of a full pipe has not ended
  reader_case : (p : ℕ) → IsPipe s.graph p → IsFullNow p → (node : Option GraphNode) (part : Part)
      → node_at s.graph (reader s.graph p) ≡ node → NodeCase s st (reader s.graph p) node part
      → (IsFailed (node_state_of part) → ⊥) → node_state_of part ≡ Running
  reader_case p is f _ _ e NoNode n =
      absurd (no_node s.graph (reader s.graph p) (plan.within p is) e)
  reader_case p is f _ _ e (CaseOfSource {empty} c) n =
      absurd ((plan.wired (reader s.graph p) (Source empty) e).0 p (is, refl))
  reader_case p is f _ _ e (CaseOfStage {filter} {inputs} {branches} {x} c) n = by_case x.state c n
    where
      hung : AllByRecursion (λ r. r.hung_up ≡ x.hung_up) (map st.reading inputs) → x.hung_up ≡ true
          → ⊥
      hung a h =
          let i = ((plan.wired (reader s.graph p) (Stage filter inputs branches) e).0.each p).0
          (is, refl) in
          false≢true (sym f.2.reader ∙ at_end (λ r. r.hung_up ≡ x.hung_up) st.reading p inputs i a
          ∙ h)

      by_case : (state : NodeState)
          → StageCase s.block (answer_of filter (told s inputs)) x state (map st.reading inputs)
          (map st.writing (present branches)) → (IsFailed state → ⊥) → state ≡ Running
      by_case Running d m = refl
      by_case (Failed fault) d m = absurd (m tt)
      by_case _ d m = absurd (hung d.0.together d.1)
  reader_case p is f _ _ e (CaseOfSink {x} c) n = by_case x.state (c p (is, refl)) n
    where
      by_case : (state : NodeState) → SinkCase x state (st.reading p) → (IsFailed state → ⊥)
          → state ≡ Running
      by_case Running d m = refl
      by_case Ended d m =
          let w = closed_whole s.block (st.writing p) (st.reading p)
          (stuck.lawful.pipes p is) d.1 in
          absurd (never_full p f.0 is f.1 f.2 w)
      by_case Broken d m = absurd d
      by_case (Failed fault) d m = absurd (m tt)

  reader_runs : (p : ℕ) → IsPipe s.graph p → IsFullNow p → IsRunning s st (reader s.graph p)
  reader_runs p is f =
      let k = reader s.graph p in (
        plan.within p is,
        reader_case p is f (node_at s.graph k) (st.part k) refl
            (stuck.lawful.nodes k) (stuck.no_fault k (plan.within p is)),
      )

  source_runs : (p : ℕ) → IsPipe s.graph p → IsBareAt st p → (st.reading p).hung_up ≡ false
      → (nothing : Bool) (x : SourcePart) (state : NodeState)
      → SourceCase s.block nothing x state (st.writing p) → (IsFailed state → ⊥) → state ≡ Running
  source_runs p is f h nothing x Running d m = refl
  source_runs p is f h nothing x Ended d m = absurd (false≢true (sym f.unclosed ∙ d.1))
  source_runs p is f h nothing x Broken d m = absurd (noted_is p is h d.1)
  source_runs p is f h nothing x (Failed fault) d m = absurd (m tt)

  -- the writer of a bare pipe whose reader is there has not ended
  writer_case : (p : ℕ) → IsPipe s.graph p → IsBareAt st p → (st.reading p).hung_up ≡ false
      → (node : Option GraphNode) (part : Part) → node_at s.graph (writer s.graph p) ≡ node
      → NodeCase s st (writer s.graph p) node part → (IsFailed (node_state_of part) → ⊥)
      → node_state_of part ≡ Running
  writer_case p is f h _ _ e NoNode n =
      let lt : writer s.graph p < length s.graph.nodes =
      omega (arith, plan.before p is, plan.within p is) in
      absurd (no_node s.graph (writer s.graph p) lt e)
  writer_case p is f h _ _ e (CaseOfSink c) n =
      absurd ((plan.wired (writer s.graph p) Sink e).0 p (is, refl))
  writer_case p is f h _ _ e (CaseOfSource {x = x} c) n =
      source_runs p is f h _ x x.state (c p (is, refl)) n
  writer_case p is f h _ _ e (CaseOfStage {filter} {inputs} {branches} {x} c) n =
      by_case x.state c n
    where
      mine : IsAmong p (present branches)
      mine = ((plan.wired (writer s.graph p) (Stage filter inputs branches) e).1.each p).0
          (is, refl)

      by_case : (state : NodeState)
          → StageCase s.block (answer_of filter (told s inputs)) x state (map st.reading inputs)
          (map st.writing (present branches)) → (IsFailed state → ⊥) → state ≡ Running
      by_case Running d m = refl
      by_case Ended d m =
          let closed = at_end (λ w. w.noted ≡ false → is_closed w ≡ true) st.writing p
          (present branches) mine d.2 in
          ⊎_elim (λ t. absurd (noted_is p is h t))
          (λ o. absurd (false≢true (sym f.unclosed ∙ closed o)))
          (cases_Bool (st.writing p).noted)
      by_case Broken d m =
          absurd (noted_is p is h (at_end (λ w. w.noted ≡ true) st.writing p
          (present branches) mine d.2))
      by_case (Failed fault) d m = absurd (m tt)

  writer_runs : (p : ℕ) → IsPipe s.graph p → IsBareAt st p → (st.reading p).hung_up ≡ false
      → IsRunning s st (writer s.graph p)
  writer_runs p is f h =
      let k = writer s.graph p in
      let lt : k < length s.graph.nodes = omega (arith, plan.before p is, plan.within p is) in (
        lt,
        writer_case p is f h (node_at s.graph k) (st.part k) refl (stuck.lawful.nodes k)
            (stuck.no_fault k lt),
      )

  -- what a node owes is no longer than the block
  held_low : (nothing : Bool) (x : SourcePart) (w : Writing) → x.state ≡ Running
      → SourceCase s.block nothing x x.state w → held_size x.held ≤ s.block
  held_low nothing x w r c = held_long s.block x.held
      (subst (λ (d : NodeState). SourceCase s.block nothing x d w) r c).held

  owed_low : (filter : WholeAnswer) (inputs : List ℕ) (branches : List (Option ℕ)) (x : StagePart)
      → x.state ≡ Running →
      StageCase s.block (answer_of filter (told s inputs)) x x.state (map st.reading inputs)
      (map st.writing (present branches)) → owed_size x ≤ s.block
  owed_low filter inputs branches x r c =
      let keeps : StageKeeps s.block (answer_of filter (told s inputs)) x (map st.reading inputs)
      (map st.writing (present branches)) =
      subst (λ d. StageCase s.block (answer_of filter (told s inputs)) x d (map st.reading inputs)
      (map st.writing (present branches))) r c in
      owed_long s.block x.machine.wanted x keeps.front keeps.owed

  -- what a wait for a full pipe says
  full_wait : (k p : ℕ) (node : Option GraphNode) (part : Part) → node_at s.graph k ≡ node
      → FullWait s st k node part p → NodeCase s st k node part → node_state_of part ≡ Running
      → Writes s.graph k p × IsFullNow p
  full_wait k p _ _ e (SourceFull {x = x} own owes full) (CaseOfSource c) r =
      (own, (held_size x.held, held_low _ x (st.writing p) r (c p own), full))
  full_wait k p _ _ e (StageFull {filter} {inputs} {branches} {x} w) (CaseOfStage c) r = (
    ((plan.wired k (Stage filter inputs branches) e).1.each p).1
        (owed_is_branch st x p w.0 (present branches) x.served w.1),
    (owed_size x, owed_low filter inputs branches x r c, w.2.0),
  )

  -- what a wait for an empty pipe says
  empty_wait : (k p : ℕ) (node : Option GraphNode) (part : Part) → node_at s.graph k ≡ node
      → EmptyWait s st k node part p → NodeCase s st k node part → node_state_of part ≡ Running
      → Reads s.graph k p × IsBareAt st p × ((st.reading p).hung_up ≡ false)
  empty_wait k p _ _ e (StageEmpty {filter} {inputs} {branches} {x} w) (CaseOfStage c) r =
      let i = got_is_input p w.0 inputs w.2 in
      let keeps : StageKeeps s.block (answer_of filter (told s inputs)) x (map st.reading inputs)
      (map st.writing (present branches)) =
      subst (λ d. StageCase s.block (answer_of filter (told s inputs)) x d (map st.reading inputs)
      (map st.writing (present branches))) r c in
      let there : x.hung_up ≡ false = ⊎_elim
      (λ h. absurd (⊎_elim (λ f. cc (f, w.1)) (λ none. w.4 none) (keeps.hung_up h)))
      (λ h. h)
      (cases_Bool x.hung_up) in (
        ((plan.wired k (Stage filter inputs branches) e).0.each p).1 i,
        w.5,
        at_end (λ v. v.hung_up ≡ x.hung_up) st.reading p inputs i keeps.together ∙ there,
      )
  empty_wait k p _ _ e (SinkEmpty {x} own none bare) (CaseOfSink c) r =
      let keeps = subst (λ d. SinkCase x d (st.reading p)) r (c p own) in
      (own, bare, keeps.stays)

  -- a node that runs waits for a pipe, and the node at its other end runs
  data Waiting (k : ℕ) : Type 0 where
    AtFull : (p : ℕ) → Writes s.graph k p → IsFullNow p → IsRunning s st (reader s.graph p)
        → WaitsFor s st k true p → Waiting k
    AtEmpty : (p : ℕ) → Reads s.graph k p → IsBareAt st p → IsRunning s st (writer s.graph p)
        → WaitsFor s st k false p → Waiting k

  waiting_at : (k : ℕ) → IsRunning s st k → (full : Bool) (p : ℕ) → WaitsFor s st k full p
      → Waiting k
  waiting_at k r true p w =
      let f = full_wait k p (node_at s.graph k) (st.part k) refl w (stuck.lawful.nodes k) r.1 in
      AtFull p f.0 f.1 (reader_runs p f.0.0 f.1) w
  waiting_at k r false p w =
      let f = empty_wait k p (node_at s.graph k) (st.part k) refl w (stuck.lawful.nodes k) r.1 in
      AtEmpty p f.0 f.1 (writer_runs p f.0.0 f.1 f.2) w

  waiting : (k : ℕ) → IsRunning s st k → Waiting k
  waiting k r = waiting_at k r (stuck.each k r).0 (stuck.each k r).1 (stuck.each k r).2

  -- the node at the other end of a pipe that is waited for runs
  pub other_runs : (w : Named) → IsRunning s st w.node → WaitsFor s st w.node w.full w.pipe
      → IsRunning s st (other_end s.graph w)
  other_runs w r h = by_case w.full h
    where
      by_case : (full : Bool) → WaitsFor s st w.node full w.pipe
          → IsRunning s st (cond full (reader s.graph w.pipe) (writer s.graph w.pipe))
      by_case true v =
          let f = full_wait w.node w.pipe (node_at s.graph w.node) (st.part w.node) refl v
          (stuck.lawful.nodes w.node) r.1 in
          reader_runs w.pipe f.0.0 f.1
      by_case false v =
          let f = empty_wait w.node w.pipe (node_at s.graph w.node) (st.part w.node) refl v
          (stuck.lawful.nodes w.node) r.1 in
          writer_runs w.pipe f.0.0 f.1 f.2

  -- the pipe that a node waits for is its own
  pub own_pipe : (w : Named) → IsRunning s st w.node → WaitsFor s st w.node w.full w.pipe
      → IsPipe s.graph w.pipe × (own_end s.graph w ≡ w.node)
  own_pipe w r h = by_case w.full h
    where
      by_case : (full : Bool) → WaitsFor s st w.node full w.pipe
          → IsPipe s.graph w.pipe
          × (cond full (writer s.graph w.pipe) (reader s.graph w.pipe) ≡ w.node)
      by_case true v =
          (full_wait w.node w.pipe (node_at s.graph w.node) (st.part w.node) refl v
          (stuck.lawful.nodes w.node) r.1).0
      by_case false v =
          (empty_wait w.node w.pipe (node_at s.graph w.node) (st.part w.node) refl v
          (stuck.lawful.nodes w.node) r.1).0

  -- the first node that runs waits for a full pipe
  first_full : (n k : ℕ) → k < n → IsRunning s st k
      → (j p : ℕ) × IsRunning s st j × WaitsFor s st j true p
  first_full zero k lt r = absurd (omega arith)
  first_full (suc n) k lt r = by_case (waiting k r) (λ j l. first_full n j l)
    where
      by_case : Waiting k → ((j : ℕ) → j < n → IsRunning s st j
          → (i p : ℕ) × IsRunning s st i × WaitsFor s st i true p)
          → (j p : ℕ) × IsRunning s st j × WaitsFor s st j true p
      by_case (AtFull p at f on w) ih = (k, p, r, w)
      by_case (AtEmpty p at b on w) ih =
          let l : writer s.graph p < n = omega (arith, plan.before p at.0, at.1) in
          ih (writer s.graph p) l on

  module _ (forest : IsForest s.graph) where
    pipe_of : {k : ℕ} → Waiting k → ℕ
    pipe_of (AtFull p at f on w) = p
    pipe_of (AtEmpty p at b on w) = p

    -- it waits for a node that comes earlier in the forest's order
    abbrev IsEarlier : {k : ℕ} → Waiting k → Type 0
    IsEarlier {k} (AtFull p at f on w) = forest.place (reader s.graph p) < forest.place k
    IsEarlier {k} (AtEmpty p at b on w) = forest.place (writer s.graph p) < forest.place k

    -- two nodes at the two ends of a pipe have two places
    places_apart : (p : ℕ) → IsPipe s.graph p
        → forest.place (writer s.graph p) ≡ forest.place (reader s.graph p) → ⊥
    places_apart p is e =
        let lt : writer s.graph p < length s.graph.nodes =
        omega (arith, plan.before p is, plan.within p is) in
        let same = forest.apart (writer s.graph p) (reader s.graph p) lt (plan.within p is) e in
        omega (arith, plan.before p is, same)

    greater : (a b : ℕ) → (b ≡ a → ⊥) → (b < a → ⊥) → a < b
    greater a b apart less = ⊎_elim (λ h. absurd (apart h))
        (λ h. ⊎_elim (λ l. absurd (less l)) (λ l. l) h) (cases_order b a)

    later_of : (k : ℕ) (w : Waiting k) → (IsEarlier w → ⊥)
        → LeadsLater s.graph forest.place k (pipe_of w)
    unfolding pipe_of
    later_of k (AtFull p at f on w) none =
        inl (
          at,
          greater (forest.place k) (forest.place (reader s.graph p))
              (λ e. places_apart p at.0 (ap forest.place at.1 ∙ sym e)) none,
        )
    later_of k (AtEmpty p at b on w) none =
        inr (
          at,
          greater (forest.place k) (forest.place (writer s.graph p))
              (λ e. places_apart p at.0 (e ∙ sym (ap forest.place at.1))) none,
        )

    -- nodes at the two ends of one pipe don't both wait for it
    both_full : (p o : ℕ) → IsPipe s.graph p → IsFullNow p → reader s.graph p ≡ o → (w : Waiting o)
        → p ≡ pipe_of w → ⊥
    unfolding pipe_of
    both_full p o is f r (AtFull q at g on w) e =
        let e' = ap (writer s.graph) e in
        omega (arith, plan.before p is, at.1, e', r)
    both_full p o is f r (AtEmpty q at b on w) e =
        clash p is f (subst (λ x. IsBareAt st x) (sym e) b)

    both_bare : (p o : ℕ) → IsPipe s.graph p → IsBareAt st p → writer s.graph p ≡ o
        → (w : Waiting o) → p ≡ pipe_of w → ⊥
    unfolding pipe_of
    both_bare p o is b r (AtFull q at f on w) e = clash p is (subst (λ x. IsFullNow x) (sym e) f) b
    both_bare p o is b r (AtEmpty q at c on w) e =
        let e' = ap (reader s.graph) e in
        omega (arith, plan.before p is, at.1, e', r)

    -- no node waits for an earlier one
    never_earlier : (n k : ℕ) → forest.place k < n → (w : Waiting k) → IsEarlier w → ⊥
    never_earlier zero k lt w e = omega arith
    never_earlier (suc n) k lt (AtFull p at f on w) e =
        let o = reader s.graph p in
        let v = waiting o on in
        let l : forest.place o < n = omega arith in
        let later = later_of o v (λ h. never_earlier n o l v h) in
        let here : LeadsLater s.graph forest.place o p =
        inr ((at.0, refl), subst (λ x. forest.place o < forest.place x) (sym at.1) e) in
        both_full p o at.0 f refl v (forest.one_later o p (pipe_of v) here later)
    never_earlier (suc n) k lt (AtEmpty p at b on w) e =
        let o = writer s.graph p in
        let v = waiting o on in
        let l : forest.place o < n = omega arith in
        let later = later_of o v (λ h. never_earlier n o l v h) in
        let here : LeadsLater s.graph forest.place o p =
        inl ((at.0, refl), subst (λ x. forest.place o < forest.place x) (sym at.1) e) in
        both_bare p o at.0 b refl v (forest.one_later o p (pipe_of v) here later)

    -- so each waits for a later one, and the last has none
    none_runs : (n k : ℕ) → length s.graph.nodes ≤ forest.place k + n → IsRunning s st k → ⊥
    none_runs zero k le r = let within = forest.within k r.0 in omega arith
    none_runs (suc n) k le r = by_case (waiting k r) (λ o. none_runs n o)
      where
        by_case : (w : Waiting k) → ((o : ℕ) → length s.graph.nodes ≤ forest.place o + n
            → IsRunning s st o → ⊥) → ⊥
        by_case (AtFull p at f on w) ih =
            let lt : forest.place k < forest.place (reader s.graph p) =
            greater (forest.place k) (forest.place (reader s.graph p))
            (λ e. places_apart p at.0 (ap forest.place at.1 ∙ sym e))
            (λ h. never_earlier (suc (forest.place k)) k
            (let l : forest.place k < suc (forest.place k) = omega arith in
            l) (AtFull p at f on w) h) in
            let le' : length s.graph.nodes ≤ forest.place (reader s.graph p) + n = omega arith in
            ih (reader s.graph p) le' on
        by_case (AtEmpty p at b on w) ih =
            let lt : forest.place k < forest.place (writer s.graph p) =
            greater (forest.place k) (forest.place (writer s.graph p))
            (λ e. places_apart p at.0 (e ∙ sym (ap forest.place at.1)))
            (λ h. never_earlier (suc (forest.place k)) k
            (let l : forest.place k < suc (forest.place k) = omega arith in
            l) (AtEmpty p at b on w) h) in
            let le' : length s.graph.nodes ≤ forest.place (writer s.graph p) + n = omega arith in
            ih (writer s.graph p) le' on

pub some_full : SomeWaitIsFull
some_full s st plan stuck = first_full s st plan stuck (suc stuck.some.0) stuck.some.0
    (omega arith) stuck.some.1

pub no_forest_stuck : NoForestIsStuck
no_forest_stuck s st plan forest stuck = none_runs s st plan stuck forest
    (length s.graph.nodes) stuck.some.0 (omega arith) stuck.some.1

leads_on : (s : Setup) (st : State) → IsPlan s.graph → IsStuck s st → (waits all : List Named)
    → AllByRecursion (λ w. IsRunning s st w.node × WaitsFor s st w.node w.full w.pipe) waits
    → ((k : ℕ) → IsRunning s st k → IsNamed k all)
    → AllByRecursion (λ w. IsNamed (other_end s.graph w) all) waits
leads_on s st plan stuck [] all each named = tt
leads_on s st plan stuck (w ∷ waits) all each named = (
  named (other_end s.graph w) (other_runs s st plan stuck w each.0.0 each.0.1),
  leads_on s st plan stuck waits all each.1 named,
)

pub waits_lead_on : StuckWaitsLeadOn
waits_lead_on s st waits plan stuck are = leads_on s st plan stuck waits waits are.each are.all
