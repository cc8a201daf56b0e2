-- What the result of a step says of the state, in a network that was right before it.
use Rattle.std.proofs.Common.{◌≡◌, ℕ, zero, suc, ◌<◌, ◌≤◌, List, [], ◌∷◌, ◌++◌, Bool, true, false}
use Rattle.std.proofs.Common.{eqb, Option, Some, get_or, set, length, map, refl, ap, ◌∙◌, sym}
use Rattle.std.proofs.Common.{subst, subst₂, arith, ⊎_elim, inl, inr, ne_eqb, eq-eqb, append-nil}
use Rattle.std.specs.Prelude.{slice_get, slice_index_or, is_none}
use Rattle.std.specs.List.{AllZip}
use Rattle.std.proofs.lemmas.Bool.{cases_lt}
use Rattle.std.proofs.lemmas.Option.{slice_get_within, slice_get-get_or}
use Rattle.machine.specs.Items.{has_close}
use Rattle.machine.specs.Law.{Shown}
use Rattle.machine.specs.Whole.{StreamAnswer}
use Rattle.machine.specs.declared.piece.Item.{Item}
use Rattle.bounded_pipe.specs.Ends.{Writing, Reading, Beside, WritesOn, ReadsOn}
use Rattle.bounded_pipe.specs.Events.{SameWriting, SameReading}
use Rattle.bounded_pipe.specs.Pipes.{is_closed, IsFull, IsBare, events_of_writing}
use Rattle.bounded_pipe.specs.Pipes.{events_of_reading}
use Rattle.collector.specs.Sources.{source_owes, held_size}
use Rattle.collector.specs.Files.{FilesShown}
use Rattle.collector.specs.Nodes.{SourceShown, SinkShown, SourceFits, SourceSays, SinkSays}
use Rattle.collector.specs.Files.{out_of as still_out}
use Rattle.collector.specs.Nodes.{SourceWaits, SinkWaits, IsUnended, IsIdle, IsFailedSource}
use Rattle.collector.specs.Nodes.{read_by}
use Rattle.collector.specs.Nodes.{source_part}
use Rattle.run_types.specs.declared.node_state.NodeState.{NodeState}
use Rattle.run_types.specs.declared.node_state.NodeState.TheVariants.{Running, Ended, Broken}
use Rattle.run_types.specs.declared.node_state.NodeState.TheVariants.{Failed}
use Rattle.run_types.specs.declared.step.Step.{Step}
use Rattle.run_types.specs.declared.step.Step.TheVariants as step
use Rattle.collector.proofs.Looks.{refusing_is_full, unknown_is_bare}
use Rattle.stages.specs.Stages.{StagePart, AllDropped}
use Rattle.stages.specs.inner.Staged.{Staged}
use Rattle.stages.specs.inner.Steps.{InCase, part, StepSays, HasState}
use Rattle.stages.specs.Inlets.{reads}
use Rattle.stages.specs.Outlets.{writes}
use Rattle.stages.specs.Cases.{part_of as stage_of, CaseOf, WaitsFull, WaitsEmpty}
use Rattle.stages.specs.Waits.{IsFirstFull, NothingIsOwed, IsBareInput}
use Rattle.stages.proofs.Exactness.{full_exact, empty_exact}
use Rattle.stages.proofs.Lists.{zip_weaker, zip_flip}
use Rattle.std.proofs.lemmas.Slice.Zip.{AllZip-long}
use Rattle.graphs.specs.Graph.{GraphNode, Source, Stage, Sink, Writes, Reads, node_at, writer}
use Rattle.network_laws.specs.State.{Part, Setup, State, node_state_of, events, IsFailed, told}
use Rattle.network_laws.specs.State.{answer_of}
use Rattle.network_laws.specs.Waits.{IsFullAt, IsBareAt, StageWaitsFull, StageWaitsEmpty, FullWait}
use Rattle.network_laws.specs.Waits.{EmptyWait, WaitsFor, SourceFull, StageFull, StageEmpty}
use Rattle.network_laws.specs.Waits.{SinkEmpty}
use Rattle.network_laws.specs.Steps.{SameEnds, StepIs}
use Rattle.network_nodes.specs.declared.actor.Actor.{Actor}
use Rattle.network_nodes.specs.declared.actor.Actor.TheVariants as an
use Rattle.network_nodes.specs.declared.actor.Link.{Link}
use Rattle.network_nodes.specs.inner.Actors.{no_writing, no_reading, outs_of, ins_of, out_pipes}
use Rattle.network_nodes.specs.inner.Actors.{in_pipes, out_end, in_end, actor_at}
use Rattle.networks.specs.Networks.{Networked, writing_by, reading_by, part_of, state_by, FitsAt}
use Rattle.networks.specs.Networks.{FitsSource, FitsStage, FitsSink, AreWired, IsRight}
use Rattle.networks.specs.inner.Steps.{Acts, StepsAt}
use Rattle.network_laws.proofs.StepLaws.{same_writing_refl, same_reading_refl, full_same, bare_same}
use Rattle.network_laws.proofs.StepLaws.{same_state_refl, says_between}
use Rattle.networks.proofs.ActLaws.{zip_get, writes_on_refl, reads_on_refl, acts_writes, acts_reads}
use Rattle.networks.proofs.ActLaws.{own_fits}
use Rattle.networks.proofs.Acted.{at_same, at_else, each_node}
use Rattle.networks.proofs.StateLaws.{writer_is, reader_is, pipe_count, writing_rel, reading_rel}
use Rattle.networks.proofs.StateLaws.{sees_state}
use Rattle.networks.proofs.lemmas.Lawful.{own_ends}
use Rattle.networks.proofs.lemmas.DebtLaws.{zip_own, first_owed, none_owed, bare_at, grew_at}
use Rattle.networks.proofs.lemmas.GrowthLaws.{writing_on, reading_on, events_grew}

failed_source : (state : NodeState) → IsFailedSource state → IsFailed state
failed_source Running h = h
failed_source Ended h = h
failed_source Broken h = h
failed_source (Failed fault) h = tt

module _ {M : Type 0} (shows : M → Shown) (su : Setup) (k : ℕ) (n : Networked M)
    (later : List (Actor M)) (old new : FilesShown) (st : Step) (lt : k < length n.nodes)
    (s : StepsAt shows k n.pipes (let w = n.wires in
    slice_index_or w k []) n.nodes later old new st) (r : IsRight shows su n old) where
  abbrev moved : List (Actor M)
  moved = set n.nodes k s.actor

  abbrev before : State
  before = state_by shows n.nodes n.pipes old

  abbrev between : State
  between = state_by shows moved n.pipes new

  abbrev wired : AreWired n.nodes n.pipes
  wired = let j = r.joined in j.wired

  goes_writing : (p : ℕ) → WritesOn (before.writing p) (between.writing p)
  goes_writing p = writing_rel WritesOn (writes_on_refl no_writing) n.nodes moved
      (λ l. each_node (λ i a. WritesOn (out_end (actor_at n.nodes i) l.branch) (out_end a l.branch))
      n.nodes k s.actor lt (acts_writes shows old new st
      (actor_at n.nodes k) s.actor s.acts l.branch)
      (λ i ne. writes_on_refl (out_end (actor_at n.nodes i) l.branch)) l.writer)
      (slice_get n.pipes p)

  goes_reading : (p : ℕ) → ReadsOn (before.reading p) (between.reading p)
  goes_reading p = reading_rel ReadsOn (reads_on_refl no_reading) n.nodes moved
      (λ l. each_node (λ i a. ReadsOn (in_end (actor_at n.nodes i) l.input) (in_end a l.input))
      n.nodes k s.actor lt (acts_reads shows old new st (actor_at n.nodes k) s.actor s.acts l.input)
      (λ i ne. reads_on_refl (in_end (actor_at n.nodes i) l.input)) l.reader) (slice_get n.pipes p)

  -- ---- an own pipe of the node that writes it: its end, the other end, and that both were beside
  -- each other

  module _ (b p : ℕ) (h : slice_get (out_pipes (actor_at n.nodes k)) b ≡ Some p) where
    abbrev out_link : (l : Link) × (slice_get n.pipes p ≡ Some l) × (l.writer ≡ k) × (l.branch ≡ b)
    out_link = let num = wired.numbered k in num.outs b p h

    -- the own end, before the step and after it
    out_of : (nodes : List (Actor M)) (a : Actor M) → actor_at nodes k ≡ a
        → writing_by nodes (slice_get n.pipes p) ≡ out_end a b
    out_of nodes a e = ap (λ (o : Option Link). writing_by nodes o) out_link.1
        ∙ (ap (λ (j : ℕ). out_end (actor_at nodes j) out_link.0.branch) out_link.2
        ∙ (ap (λ (j : ℕ). out_end (actor_at nodes k) j) out_link.3
        ∙ ap (λ (c : Actor M). out_end c b) e))

    out_before : before.writing p ≡ out_end (actor_at n.nodes k) b
    out_before = out_of n.nodes (actor_at n.nodes k) refl

    out_between : between.writing p ≡ out_end s.actor b
    out_between = out_of moved s.actor (at_same n.nodes k s.actor lt)

    out_reader : between.reading p ≡ before.reading p
    out_reader =
        let placed = wired.placed p out_link.0 out_link.1 in
        ap (λ (o : Option Link). reading_by moved o) out_link.1
        ∙ (ap (λ (a : Actor M). in_end a out_link.0.input)
        (at_else n.nodes k out_link.0.reader s.actor
        (λ e. omega (arith, placed.order, out_link.2, e)))
        ∙ sym (ap (λ (o : Option Link). reading_by n.nodes o) out_link.1))

    out_beside : Beside (out_end (actor_at n.nodes k) b) (between.reading p)
    out_beside =
        let j = r.joined in
        subst₂ Beside out_before (sym out_reader)
        (subst (λ (o : Option Link). Beside (writing_by n.nodes o) (reading_by n.nodes o))
        (sym out_link.1) (j.beside p out_link.0 out_link.1))

    out_within : p < length (let g = su.graph in g.pipes)
    out_within =
        let w : p < length n.pipes = slice_get_within n.pipes p out_link.0 out_link.1 in
        omega (arith, pipe_count su.graph n r.graph, w)

    out_writer : writer su.graph p ≡ k
    out_writer = writer_is su.graph n r.graph p out_link.0 out_link.1 ∙ out_link.2

  -- ---- and of the node that reads it

  module _ (b p : ℕ) (h : slice_get (in_pipes (actor_at n.nodes k)) b ≡ Some p) where
    abbrev in_link : (l : Link) × (slice_get n.pipes p ≡ Some l) × (l.reader ≡ k) × (l.input ≡ b)
    in_link = let num = wired.numbered k in num.ins b p h

    in_of : (nodes : List (Actor M)) (a : Actor M) → actor_at nodes k ≡ a
        → reading_by nodes (slice_get n.pipes p) ≡ in_end a b
    in_of nodes a e = ap (λ (o : Option Link). reading_by nodes o) in_link.1
        ∙ (ap (λ (j : ℕ). in_end (actor_at nodes j) in_link.0.input) in_link.2
        ∙ (ap (λ (j : ℕ). in_end (actor_at nodes k) j) in_link.3
        ∙ ap (λ (c : Actor M). in_end c b) e))

    in_before : before.reading p ≡ in_end (actor_at n.nodes k) b
    in_before = in_of n.nodes (actor_at n.nodes k) refl

    in_between : between.reading p ≡ in_end s.actor b
    in_between = in_of moved s.actor (at_same n.nodes k s.actor lt)

    in_order : in_link.0.writer < k
    in_order =
        let placed = wired.placed p in_link.0 in_link.1 in
        omega (arith, placed.order, in_link.2)

    in_writer : between.writing p ≡ before.writing p
    in_writer =
        ap (λ (o : Option Link). writing_by moved o) in_link.1
        ∙ (ap (λ (a : Actor M). out_end a in_link.0.branch)
        (at_else n.nodes k in_link.0.writer s.actor (λ e. omega (arith, in_order, e)))
        ∙ sym (ap (λ (o : Option Link). writing_by n.nodes o) in_link.1))

    in_beside : Beside (between.writing p) (in_end (actor_at n.nodes k) b)
    in_beside =
        let j = r.joined in
        subst₂ Beside (sym in_writer) in_before
        (subst (λ (o : Option Link). Beside (writing_by n.nodes o) (reading_by n.nodes o))
        (sym in_link.1) (j.beside p in_link.0 in_link.1))

    in_within : p < length (let g = su.graph in g.pipes)
    in_within =
        let w : p < length n.pipes = slice_get_within n.pipes p in_link.0 in_link.1 in
        omega (arith, pipe_count su.graph n r.graph, w)

    in_elsewhere : eqb (writer su.graph p) k ≡ false
    in_elsewhere = ne_eqb (writer su.graph p) k
        (λ e. omega (arith, in_order, writer_is su.graph n r.graph p in_link.0 in_link.1, e))

  -- ---- where the node's own ends did nothing, no end did

  still : ((b : ℕ) → SameWriting (out_end (actor_at n.nodes k) b) (out_end s.actor b))
      → ((b : ℕ) → SameReading (in_end (actor_at n.nodes k) b) (in_end s.actor b))
      → SameEnds before between
  still outs ins = record {
    writing = λ p. writing_rel SameWriting (same_writing_refl no_writing) n.nodes moved
        (λ l. each_node (λ i a. SameWriting (out_end (actor_at n.nodes i) l.branch)
        (out_end a l.branch)) n.nodes k s.actor lt (outs l.branch)
        (λ i ne. same_writing_refl (out_end (actor_at n.nodes i) l.branch)) l.writer)
        (slice_get n.pipes p);
    reading = λ p. reading_rel SameReading (same_reading_refl no_reading) n.nodes moved
        (λ l. each_node (λ i a. SameReading (in_end (actor_at n.nodes i) l.input)
        (in_end a l.input)) n.nodes k s.actor lt (ins l.input)
        (λ i ne. same_reading_refl (in_end (actor_at n.nodes i) l.input)) l.reader)
        (slice_get n.pipes p);
  }

  part_now : between.part k ≡ part_of shows new s.actor
  part_now = ap (λ (a : Actor M). part_of shows new a) (at_same n.nodes k s.actor lt)

  -- an event at an own end is one of the network
  out_event : (b p : ℕ) → slice_get (out_pipes (actor_at n.nodes k)) b ≡ Some p
      → events_of_writing (out_end (actor_at n.nodes k) b) < events_of_writing (out_end s.actor b)
      → events su.graph before < events su.graph between
  out_event b p h more = events_grew _ before between goes_writing goes_reading p (out_within b p h)
      (inl (subst₂ (λ (v w : Writing). events_of_writing v < events_of_writing w)
      (sym (out_before b p h)) (sym (out_between b p h)) more))

  in_event : (b p : ℕ) → slice_get (in_pipes (actor_at n.nodes k)) b ≡ Some p
      → events_of_reading (in_end (actor_at n.nodes k) b) < events_of_reading (in_end s.actor b)
      → events su.graph before < events su.graph between
  in_event b p h more = events_grew _ before between goes_writing goes_reading p (in_within b p h)
      (inr (subst₂ (λ (v w : Reading). events_of_reading v < events_of_reading w)
      (sym (in_before b p h)) (sym (in_between b p h)) more))

  was_in_state : (b : Actor M) → s.actor ≡ b → (x : NodeState)
      → node_state_of (part_of shows new b) ≡ x → node_state_of (between.part k) ≡ x
  was_in_state b e x h = ap node_state_of part_now
      ∙ (ap (λ (a : Actor M). node_state_of (part_of shows new a)) e ∙ h)

  -- ---- a source

  module _ (x z : SourceShown) (ea : actor_at n.nodes k ≡ an.Source x) (eb : s.actor ≡ an.Source z)
      (nothing : Bool) (empty : is_none z.file ≡ nothing) (same : z.pipe ≡ x.pipe)
      (fits : SourceFits (read_by new z.file) z)
      (waits : (p : ℕ) → Writes su.graph k p
      → source_owes nothing (source_part (read_by new z.file).bytes z) (between.writing p)
      ≡ true → IsFullAt between (held_size z.held) p → WaitsFor su between k true p) where
    source_pipe : slice_get (out_pipes (actor_at n.nodes k)) 0 ≡ Some x.pipe
    source_pipe = ap (λ (a : Actor M). slice_get (out_pipes a) 0) ea

    source_before : out_end (actor_at n.nodes k) 0 ≡ x.end
    source_before = ap (λ (a : Actor M). out_end a 0) ea

    source_after : out_end s.actor 0 ≡ z.end
    source_after = ap (λ (a : Actor M). out_end a 0) eb

    source_ends : SameWriting x.end z.end → (b : ℕ)
        → SameWriting (get_or (x.end ∷ []) b no_writing) (get_or (z.end ∷ []) b no_writing)
    source_ends w zero = w
    source_ends w (suc b) = same_writing_refl no_writing

    source_still : SameWriting x.end z.end → SameEnds before between
    source_still w = still
        (subst₂ (λ (a c : Actor M). (b : ℕ) → SameWriting (out_end a b) (out_end c b)) (sym ea)
        (sym eb) (source_ends w))
        (subst₂ (λ (a c : Actor M). (b : ℕ) → SameReading (in_end a b) (in_end c b)) (sym ea)
        (sym eb) (λ b. same_reading_refl no_reading))

    now_writing : between.writing x.pipe ≡ z.end
    now_writing = out_between 0 x.pipe source_pipe ∙ source_after

    source_full : SourceWaits x z x.pipe → IsFullAt between (held_size z.held) x.pipe
    source_full w =
        let rr = between.reading x.pipe in
        subst (λ (v : Writing). IsFull (held_size z.held) v rr) (sym now_writing)
        (full_same (held_size z.held) x.end z.end rr rr w.same (same_reading_refl rr)
        (refusing_is_full (held_size z.held) x.end rr
        (subst (λ (v : Writing). Beside v rr) source_before (out_beside 0 x.pipe source_pipe))
        w.refuses))

    source_owing : SourceWaits x z x.pipe
        → source_owes nothing (source_part (read_by new z.file).bytes z) (between.writing x.pipe)
        ≡ true
    source_owing w =
        let unclosed : is_closed z.end ≡ false = fits.unclosed w.running in
        subst₂ (λ (b : Bool) (v : Writing). source_owes b
        (source_part (read_by new z.file).bytes z) v ≡ true) empty (sym now_writing)
        (w.owes [] unclosed)

    source_waits : SourceWaits x z x.pipe → StepIs su before between k (step.Waits x.pipe)
    source_waits w = (
      was_in_state (an.Source z) eb Running w.running,
      source_still w.same,
      subst (λ (b : Bool). WaitsFor su between k b x.pipe)
          (sym (eq-eqb (writer su.graph x.pipe) k (out_writer 0 x.pipe source_pipe)))
          (waits x.pipe (out_within 0 x.pipe source_pipe, out_writer 0 x.pipe source_pipe)
          (source_owing w) (source_full w)),
    )

    source_is : (t : Step) → SourceSays x z t → StepIs su before between k t
    source_is step.Moved h = (
      was_in_state (an.Source z) eb Running h.0,
      out_event 0 x.pipe source_pipe
          (subst₂ (λ (v w : Writing). events_of_writing v < events_of_writing w) (sym source_before)
          (sym source_after) h.1),
    )
    source_is (step.Waits p) w =
        let here : p ≡ x.pipe = w.own ∙ same in
        subst (λ (q : ℕ). StepIs su before between k (step.Waits q)) (sym here)
        (source_waits (subst (SourceWaits x z) here w))
    source_is step.Ended h = was_in_state (an.Source z) eb Ended h
    source_is step.Broken h = was_in_state (an.Source z) eb Broken h
    source_is step.Failed h = subst IsFailed (sym (was_in_state (an.Source z) eb z.state refl))
        (failed_source z.state h)

  -- ---- a sink

  module _ (y z : SinkShown) (ea : actor_at n.nodes k ≡ an.Sink y) (eb : s.actor ≡ an.Sink z)
      (same : z.pipe ≡ y.pipe) (unended : IsUnended z)
      (waits : still_out new z.file ≡ [] → (p : ℕ) → Reads su.graph k p → IsBareAt between p
      → WaitsFor su between k false p) where
    sink_pipe : slice_get (in_pipes (actor_at n.nodes k)) 0 ≡ Some y.pipe
    sink_pipe = ap (λ (a : Actor M). slice_get (in_pipes a) 0) ea

    sink_before : in_end (actor_at n.nodes k) 0 ≡ y.end
    sink_before = ap (λ (a : Actor M). in_end a 0) ea

    sink_after : in_end s.actor 0 ≡ z.end
    sink_after = ap (λ (a : Actor M). in_end a 0) eb

    sink_ends : SameReading y.end z.end → (b : ℕ)
        → SameReading (get_or (y.end ∷ []) b no_reading) (get_or (z.end ∷ []) b no_reading)
    sink_ends w zero = w
    sink_ends w (suc b) = same_reading_refl no_reading

    sink_still : SameReading y.end z.end → SameEnds before between
    sink_still w = still
        (subst₂ (λ (a c : Actor M). (b : ℕ) → SameWriting (out_end a b) (out_end c b)) (sym ea)
        (sym eb) (λ b. same_writing_refl no_writing))
        (subst₂ (λ (a c : Actor M). (b : ℕ) → SameReading (in_end a b) (in_end c b)) (sym ea)
        (sym eb) (sink_ends w))

    sink_bare : SinkWaits y z y.pipe → IsBareAt between y.pipe
    sink_bare w =
        let ww = between.writing y.pipe in
        let beside : Beside ww y.end = subst (λ (q : Reading). Beside ww q) sink_before
        (in_beside 0 y.pipe sink_pipe) in
        let unread : has_close y.end.taken ≡ false = ap has_close (sym w.same.taken)
        ∙ unended w.running in
        let all : ww.put ≡ y.end.taken = (let s = beside.sees in s.between)
        ∙ (ap (λ (l : List Item). y.end.taken ++ l) w.empty ∙ append-nil y.end.taken) in
        subst (λ (q : Reading). IsBare ww q) (sym (in_between 0 y.pipe sink_pipe ∙ sink_after))
        (bare_same ww ww y.end z.end (same_writing_refl ww) w.same
        (unknown_is_bare ww y.end beside w.empty (ap has_close all ∙ unread)))

    sink_reads : Reads su.graph k y.pipe
    sink_reads = (
      in_within 0 y.pipe sink_pipe,
      reader_is su.graph n r.graph y.pipe
          (in_link 0 y.pipe sink_pipe).0 (in_link 0 y.pipe sink_pipe).1
          ∙ (in_link 0 y.pipe sink_pipe).2,
    )

    sink_waits : still_out new z.file ≡ [] → SinkWaits y z y.pipe
        → StepIs su before between k (step.Waits y.pipe)
    sink_waits idle w = (
      was_in_state (an.Sink z) eb Running w.running,
      sink_still w.same,
      subst (λ (b : Bool). WaitsFor su between k b y.pipe) (sym (in_elsewhere 0 y.pipe sink_pipe))
          (waits idle y.pipe sink_reads (sink_bare w)),
    )

    sink_is : (t : Step) → IsIdle t (still_out new z.file) → SinkSays y z t
        → StepIs su before between k t
    sink_is step.Moved idle h = (
      was_in_state (an.Sink z) eb Running h.0,
      in_event 0 y.pipe sink_pipe
          (subst₂ (λ (v w : Reading). events_of_reading v < events_of_reading w) (sym sink_before)
          (sym sink_after) h.1),
    )
    sink_is (step.Waits p) idle w =
        let here : p ≡ y.pipe = w.own ∙ same in
        subst (λ (q : ℕ). StepIs su before between k (step.Waits q)) (sym here)
        (sink_waits idle (subst (SinkWaits y z) here w))
    sink_is step.Ended idle h = was_in_state (an.Sink z) eb Ended h
    sink_is step.Broken idle h = absurd h
    sink_is step.Failed idle h = subst IsFailed (sym (was_in_state (an.Sink z) eb z.state refl ∙ h)) tt

  -- ---- a stage

  module _ (t u : Staged M) (ea : actor_at n.nodes k ≡ an.Stage t) (eb : s.actor ≡ an.Stage u)
      (in_numbers : u.inlet.pipes ≡ t.inlet.pipes) (out_numbers : u.outlet.pipes ≡ t.outlet.pipes)
      (in_all : AllZip ReadsOn t.inlet.ends u.inlet.ends)
      (out_all : AllZip WritesOn t.outlet.ends u.outlet.ends) (answer : StreamAnswer)
      (case : InCase shows answer u)
      (full_waits : (p : ℕ) → StageWaitsFull between (part shows u) t.outlet.pipes p
      → WaitsFor su between k true p)
      (empty_waits : (p : ℕ) → StageWaitsEmpty between (part shows u) t.inlet.pipes t.outlet.pipes p
      → WaitsFor su between k false p) where
    stage_out : (b p : ℕ) → slice_get t.outlet.pipes b ≡ Some p
        → slice_get (out_pipes (actor_at n.nodes k)) b ≡ Some p
    stage_out b p h = ap (λ (a : Actor M). slice_get (out_pipes a) b) ea ∙ h

    stage_in : (b p : ℕ) → slice_get t.inlet.pipes b ≡ Some p
        → slice_get (in_pipes (actor_at n.nodes k)) b ≡ Some p
    stage_in b p h = ap (λ (a : Actor M). slice_get (in_pipes a) b) ea ∙ h

    outs_long : length t.outlet.ends ≡ length t.outlet.pipes
    outs_long =
        let num = wired.numbered k in
        subst (λ (a : Actor M). length (outs_of a) ≡ length (out_pipes a)) ea num.out_count

    ins_long : length t.inlet.ends ≡ length t.inlet.pipes
    ins_long =
        let num = wired.numbered k in
        subst (λ (a : Actor M). length (ins_of a) ≡ length (in_pipes a)) ea num.in_count

    -- its ends after the step are those of its pipes
    outs_now : map between.writing t.outlet.pipes ≡ u.outlet.ends
    outs_now = own_ends between.writing no_writing t.outlet.pipes u.outlet.ends
        (AllZip-long WritesOn t.outlet.ends u.outlet.ends out_all ∙ outs_long)
        (λ b p h. out_between b p (stage_out b p h) ∙ ap (λ (a : Actor M). out_end a b) eb)

    ins_now : map between.reading t.inlet.pipes ≡ u.inlet.ends
    ins_now = own_ends between.reading no_reading t.inlet.pipes u.inlet.ends
        (AllZip-long ReadsOn t.inlet.ends u.inlet.ends in_all ∙ ins_long)
        (λ b p h. in_between b p (stage_in b p h) ∙ ap (λ (a : Actor M). in_end a b) eb)

    -- and had met the other ends before it
    outs_beside : AllZip Beside t.outlet.ends (map between.reading t.outlet.pipes)
    outs_beside = zip_own Beside between.reading no_writing t.outlet.ends t.outlet.pipes outs_long
        (λ b p h. subst (λ (a : Actor M). Beside (out_end a b) (between.reading p)) ea
        (out_beside b p (stage_out b p h)))

    ins_beside : AllZip (λ (q : Reading) (w : Writing). Beside w q) t.inlet.ends
        (map between.writing t.inlet.pipes)
    ins_beside = zip_own (λ (q : Reading) (w : Writing). Beside w q) between.writing no_reading
        t.inlet.ends t.inlet.pipes ins_long
        (λ b p h. subst (λ (a : Actor M). Beside (between.writing p) (in_end a b)) ea
        (in_beside b p (stage_in b p h)))

    abbrev runs : StagePart
    runs = stage_of Running (shows u.machine) u.inlet u.outlet

    stage_still : AllZip SameReading t.inlet.ends u.inlet.ends
        → AllZip SameWriting t.outlet.ends u.outlet.ends → SameEnds before between
    stage_still ins outs = still
        (subst₂ (λ (a c : Actor M). (b : ℕ) → SameWriting (out_end a b) (out_end c b)) (sym ea)
        (sym eb) (zip_get SameWriting no_writing
        (same_writing_refl no_writing) t.outlet.ends u.outlet.ends outs))
        (subst₂ (λ (a c : Actor M). (b : ℕ) → SameReading (in_end a b) (in_end c b)) (sym ea)
        (sym eb) (zip_get SameReading no_reading
        (same_reading_refl no_reading) t.inlet.ends u.inlet.ends ins))

    module _ (running : u.state ≡ Running) where
      part_is : part shows u ≡ runs
      part_is = ap (λ (x : NodeState). stage_of x (shows u.machine) u.inlet u.outlet) running

      case_is : CaseOf answer Running (shows u.machine) u.inlet u.outlet
      case_is = subst (λ (x : NodeState). CaseOf answer x (shows u.machine) u.inlet u.outlet)
          running case

      stage_full : (b p : ℕ) → slice_get t.outlet.pipes b ≡ Some p
          → WaitsFull (shows t.machine) t.inlet t.outlet (shows u.machine) u.inlet u.outlet b
          → StageWaitsFull between (part shows u) t.outlet.pipes p
      stage_full b p h w =
          let f = full_exact answer (shows t.machine) t.inlet t.outlet
          (shows u.machine) u.inlet u.outlet b
          (map between.reading t.outlet.pipes) case_is w outs_beside in
          let o = first_owed between runs t.outlet.pipes u.outlet.served b p h
          (subst (λ (xs : List Writing). IsFirstFull runs xs u.outlet.served
          (map between.reading t.outlet.pipes) b) (sym outs_now) f.0) in
          subst (λ (x : StagePart). StageWaitsFull between x t.outlet.pipes p) (sym part_is)
          (o.0, o.1, o.2, f.1)

      stage_empty : (b p : ℕ) → slice_get t.inlet.pipes b ≡ Some p
          → WaitsEmpty (shows t.machine) t.inlet t.outlet (shows u.machine) u.inlet u.outlet b
          → StageWaitsEmpty between (part shows u) t.inlet.pipes t.outlet.pipes p
      stage_empty b p h w =
          let f = empty_exact answer (shows t.machine) t.inlet t.outlet
          (shows u.machine) u.inlet u.outlet b (map between.writing t.inlet.pipes) case_is w
          (zip_flip (λ (q : Reading) (w : Writing). Beside w q) t.inlet.ends
          (map between.writing t.inlet.pipes) ins_beside) in
          subst (λ (x : StagePart). StageWaitsEmpty between x t.inlet.pipes t.outlet.pipes p)
          (sym part_is) (
            b,
            f.2,
            h,
            none_owed between runs t.outlet.pipes u.outlet.served
                (subst (λ (xs : List Writing). NothingIsOwed runs xs u.outlet.served)
                (sym outs_now) f.0),
            (λ d. f.1 (subst AllDropped outs_now d)),
            bare_at between t.inlet.pipes b p h
                (subst (λ (xs : List Reading). IsBareInput (map between.writing t.inlet.pipes) xs b)
                (sym ins_now) f.3),
          )

    out_grew : writes t.outlet.ends < writes u.outlet.ends
        → events su.graph before < events su.graph between
    out_grew more =
        let g = grew_at events_of_writing no_writing t.outlet.ends u.outlet.ends
        (zip_weaker WritesOn (λ v w. events_of_writing v ≤ events_of_writing w) writing_on
        t.outlet.ends u.outlet.ends out_all) more in
        out_event g.0 (get_or t.outlet.pipes g.0 0)
        (stage_out g.0 (get_or t.outlet.pipes g.0 0)
        (slice_get-get_or t.outlet.pipes g.0 0 (omega (arith, g.1, outs_long))))
        (subst₂ (λ (a c : Actor M). events_of_writing (out_end a g.0) < events_of_writing
        (out_end c g.0)) (sym ea) (sym eb) g.2)

    in_grew : reads t.inlet.ends < reads u.inlet.ends
        → events su.graph before < events su.graph between
    in_grew more =
        let g = grew_at events_of_reading no_reading t.inlet.ends u.inlet.ends
        (zip_weaker ReadsOn (λ v w. events_of_reading v ≤ events_of_reading w) reading_on
        t.inlet.ends u.inlet.ends in_all) more in
        in_event g.0 (get_or t.inlet.pipes g.0 0)
        (stage_in g.0 (get_or t.inlet.pipes g.0 0)
        (slice_get-get_or t.inlet.pipes g.0 0 (omega (arith, g.1, ins_long))))
        (subst₂ (λ (a c : Actor M). events_of_reading (in_end a g.0) < events_of_reading
        (in_end c g.0)) (sym ea) (sym eb) g.2)

    stage_is : (v : Step) → HasState u.state v → StepSays shows t u v → StepIs su before between k v
    stage_is step.Moved in_state says = (
      was_in_state (an.Stage u) eb Running in_state,
      ⊎_elim in_grew (λ le. out_grew (omega (arith, le, says)))
          (cases_lt (reads t.inlet.ends) (reads u.inlet.ends)),
    )
    stage_is (step.Waits p) in_state says = ⊎_elim
        (λ f.
        let h : slice_get t.outlet.pipes f.0 ≡ Some p =
        ap (λ (l : List ℕ). slice_get l f.0) (sym out_numbers) ∙ f.1 in (
          was_in_state (an.Stage u) eb Running in_state,
          stage_still (let i = f.2.inputs in i.ends) f.2.ends,
          subst (λ (b : Bool). WaitsFor su between k b p)
              (sym (eq-eqb (writer su.graph p) k (out_writer f.0 p (stage_out f.0 p h))))
              (full_waits p (stage_full in_state f.0 p h f.2)),
        ))
        (λ e.
        let h : slice_get t.inlet.pipes e.0 ≡ Some p =
        ap (λ (l : List ℕ). slice_get l e.0) (sym in_numbers) ∙ e.1 in (
          was_in_state (an.Stage u) eb Running in_state,
          stage_still (let i = e.2.inputs in i.ends) e.2.ends,
          subst (λ (b : Bool). WaitsFor su between k b p)
              (sym (in_elsewhere e.0 p (stage_in e.0 p h)))
              (empty_waits p (stage_empty in_state e.0 p h e.2)),
        ))
        says
    stage_is step.Ended in_state says = was_in_state (an.Stage u) eb Ended in_state
    stage_is step.Broken in_state says = was_in_state (an.Stage u) eb Broken in_state
    stage_is step.Failed in_state says =
        subst IsFailed (sym (was_in_state (an.Stage u) eb u.state refl ∙ in_state.1)) tt

  -- ---- every node

  part_is_of : (b : Actor M) → s.actor ≡ b → between.part k ≡ part_of shows new b
  part_is_of b e = part_now ∙ ap (λ (a : Actor M). part_of shows new a) e

  full_at : (node : Option GraphNode) (b : Actor M) → node_at su.graph k ≡ node → s.actor ≡ b
      → (p : ℕ) → FullWait su between k node (part_of shows new b) p → WaitsFor su between k true p
  full_at which b e f p h =
      subst₂ (λ (o : Option GraphNode) (x : Part). FullWait su between k o x p) (sym e)
      (sym (part_is_of b f)) h

  empty_at : (node : Option GraphNode) (b : Actor M) → node_at su.graph k ≡ node → s.actor ≡ b
      → (p : ℕ) → EmptyWait su between k node (part_of shows new b) p
      → WaitsFor su between k false p
  empty_at which b e f p h =
      subst₂ (λ (o : Option GraphNode) (x : Part). EmptyWait su between k o x p) (sym e)
      (sym (part_is_of b f)) h

  node_is : (node : Option GraphNode) (a b : Actor M) → node_at su.graph k ≡ node
      → actor_at n.nodes k ≡ a → s.actor ≡ b → Acts shows a b old new st
      → FitsAt shows su old k node a → FitsAt shows su new k node b → StepIs su before between k st
  node_is _ (an.Source x) (an.Source z) e ea eb acts (FitsSource was f b)
      (FitsSource {empty} file fits block) =
      source_is x z ea eb _ file (let q = acts.same in q.pipe) fits
      (λ p own owes full. full_at (Some (Source empty)) (an.Source z) e eb p
      (SourceFull own owes full)) st acts.says
  node_is _ (an.Stage t) (an.Stage u) e ea eb acts
      (FitsStage {filter} {inputs} {branches} ins outs before_case b) (FitsStage i o case block) =
      let w = acts.0.writes in
      let q = acts.0.reads in
      stage_is t u ea eb q.pipes w.pipes q.ends w.ends (answer_of filter (told su inputs)) case
      (λ p h. full_at (Some (Stage filter inputs branches)) (an.Stage u) e eb p
      (StageFull (subst (λ (ps : List ℕ). StageWaitsFull between (part shows u) ps p) outs h)))
      (λ p h. empty_at (Some (Stage filter inputs branches)) (an.Stage u) e eb p
      (StageEmpty
      (subst₂ (λ (is ps : List ℕ). StageWaitsEmpty between (part shows u) is ps p) ins outs h)))
      st acts.0.state (acts.0.says (answer_of filter (told su inputs)) before_case)
  node_is _ (an.Sink y) (an.Sink z) e ea eb acts (FitsSink f u) (FitsSink fits unended) =
      sink_is y z ea eb (let q = acts.same in q.pipe) unended
      (λ idle p own bare. empty_at (Some Sink) (an.Sink z) e eb p (SinkEmpty own idle bare)) st
      (acts.idle f) acts.says
  node_is _ a b e ea eb acts f f' = absurd acts

  pub step_is : StepIs su before (state_by shows later n.pipes new) k st
  step_is =
      let f = r.fits k lt in
      let f' = own_fits shows old new st (actor_at n.nodes k) s.actor s.acts su k
      (node_at su.graph k) f in
      says_between su k before before between (state_by shows later n.pipes new) st
      (same_state_refl before)
      (node_is (node_at su.graph k) (actor_at n.nodes k) s.actor refl refl refl s.acts f f')
      (let e = s.sees in sees_state shows n.pipes moved later new e.sees)
