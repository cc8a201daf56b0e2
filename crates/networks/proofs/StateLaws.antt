-- The state of a network: what a look leaves of it, and what a step of one node leaves of it.
use Rattle.std.proofs.Common.{◌≡◌, ◌≢◌, ℕ, zero, suc, ◌<◌, List, [], ◌∷◌, Option, Some, None}
use Rattle.std.proofs.Common.{get_or, set, length, map, refl, ap, ◌∙◌, sym, subst, arith}
use Rattle.std.specs.Prelude.{unwrap_or, slice_get, slice_index_or}
use Rattle.std.proofs.lemmas.Option.{slice_get-get_or, slice_get_within}
use Rattle.machine.specs.Law.{Shown}
use Rattle.bounded_pipe.specs.Ends.{Writing, Reading, WritesOn, ReadsOn}
use Rattle.bounded_pipe.specs.Events.{SameWriting, SameReading}
use Rattle.collector.specs.Files.{FilesShown, ReadLog, WriteLog}
use Rattle.collector.specs.Nodes.{SourceShown, SinkShown, source_part, sink_part, failures_after}
use Rattle.run_types.specs.declared.step.Step.{Step}
use Rattle.run_types.specs.declared.node_state.NodeState.{NodeState}
use Rattle.run_types.specs.declared.node_state.NodeState.TheVariants.{Running, Ended, Broken}
use Rattle.run_types.specs.declared.node_state.NodeState.TheVariants.{Failed}
use Rattle.run_types.specs.declared.node_state.NodeFault.{NodeFault}
use Rattle.run_types.specs.declared.node_state.NodeFault.TheVariants.{ReadFault, WriteFault}
use Rattle.run_types.specs.declared.node_state.NodeFault.TheVariants.{CountTooLarge, NoMemory}
use Rattle.stages.specs.inner.Staged.{Staged}
use Rattle.stages.specs.inner.Steps.{IsStageFault}
use Rattle.graphs.specs.Graph.{Graph, writer, reader}
use Rattle.network_laws.specs.State.{Part, OfSource, OfSink, State, node_state_of}
use Rattle.network_laws.specs.Steps.{SameState, IsStep}
use Rattle.network_nodes.specs.declared.actor.Actor.{Actor}
use Rattle.network_nodes.specs.declared.actor.Actor.TheVariants as an
use Rattle.network_nodes.specs.declared.actor.Link.{Link}
use Rattle.network_nodes.specs.inner.Actors.{no_writing, no_reading, out_end, in_end, out_at, in_at}
use Rattle.network_nodes.specs.inner.Actors.{actor_at}
use Rattle.networks.specs.Networks.{Networked, joins, writing_by, reading_by, part_of, state_by}
use Rattle.networks.specs.Networks.{AreApart, in_file, out_file, IsOf}
use Rattle.networks.specs.inner.Steps.{Sees, Acts, StepsAt}
use Rattle.network_laws.proofs.StepLaws.{same_writing_refl, same_reading_refl, same_state_refl}
use Rattle.network_laws.proofs.StepLaws.{step_between}
use Rattle.networks.proofs.ActLaws.{writes_on_refl, reads_on_refl, acts_writes, acts_reads}
use Rattle.networks.proofs.ActLaws.{same_read, same_written}
use Rattle.networks.proofs.Acted.{at_same, at_else, each_node}

stage_failures : (old new : NodeState) (failures : ℕ)
    → (old ≡ Running → (fault : NodeFault) → new ≡ Failed fault → IsStageFault fault)
    → failures ≡ failures_after old new failures
stage_failures Running Running failures h = refl
stage_failures Running Ended failures h = refl
stage_failures Running Broken failures h = refl
stage_failures Running (Failed ReadFault) failures h = absurd (h refl ReadFault refl)
stage_failures Running (Failed WriteFault) failures h = absurd (h refl WriteFault refl)
stage_failures Running (Failed CountTooLarge) failures h = refl
stage_failures Running (Failed NoMemory) failures h = refl
stage_failures Ended new failures h = refl
stage_failures Broken new failures h = refl
stage_failures (Failed fault) new failures h = refl

-- the table of a graph is that of the links
pub link_writer : (pipes : List Link) (p : ℕ) (l : Link) → slice_get pipes p ≡ Some l
    → (slice_index_or (map joins pipes) p (0, 0)).0 ≡ l.writer
link_writer [] p l e = let w = slice_get_within [] p l e in absurd (omega (arith, w))
link_writer (m ∷ pipes) zero l e = ap (λ (o : Option Link). (unwrap_or o m).writer) e
link_writer (m ∷ pipes) (suc p) l e = link_writer pipes p l e

pub link_reader : (pipes : List Link) (p : ℕ) (l : Link) → slice_get pipes p ≡ Some l
    → (slice_index_or (map joins pipes) p (0, 0)).1 ≡ l.reader
link_reader [] p l e = let w = slice_get_within [] p l e in absurd (omega (arith, w))
link_reader (m ∷ pipes) zero l e = ap (λ (o : Option Link). (unwrap_or o m).reader) e
link_reader (m ∷ pipes) (suc p) l e = link_reader pipes p l e

pub long_joins : (pipes : List Link) → length (map joins pipes) ≡ length pipes
long_joins [] = refl
long_joins (l ∷ pipes) = let r = long_joins pipes in omega (arith, r)

module _ {M : Type 0} where
  pub writer_is : (g : Graph) (n : Networked M) → IsOf g n → (p : ℕ) (l : Link)
      → slice_get n.pipes p ≡ Some l → writer g p ≡ l.writer
  writer_is g n of p l e = ap (λ (ps : List (ℕ × ℕ)). (slice_index_or ps p (0, 0)).0) (sym of.pipes)
      ∙ link_writer n.pipes p l e

  pub reader_is : (g : Graph) (n : Networked M) → IsOf g n → (p : ℕ) (l : Link)
      → slice_get n.pipes p ≡ Some l → reader g p ≡ l.reader
  reader_is g n of p l e = ap (λ (ps : List (ℕ × ℕ)). (slice_index_or ps p (0, 0)).1) (sym of.pipes)
      ∙ link_reader n.pipes p l e

  pub pipe_count : (g : Graph) (n : Networked M) → IsOf g n → length g.pipes ≡ length n.pipes
  pipe_count g n of = ap (λ (ps : List (ℕ × ℕ)). length ps) (sym of.pipes) ∙ long_joins n.pipes

  -- the pipe's link
  pub link_is : (n : Networked M) (p : ℕ) → p < length n.pipes
      → (l : Link) × (slice_get n.pipes p ≡ Some l)
  link_is n p lt =
      let none : Link = record { writer = 0; branch = 0; reader = 0; input = 0 } in
      (get_or n.pipes p none, slice_get-get_or n.pipes p none lt)

  -- ---- a relation on the ends, over the table

  pub writing_rel : (R : Writing → Writing → Type 0) → R no_writing no_writing
      → (a b : List (Actor M)) → ((l : Link) → R (out_at a l) (out_at b l)) → (o : Option Link)
      → R (writing_by a o) (writing_by b o)
  writing_rel R r a b each None = r
  writing_rel R r a b each (Some l) = each l

  pub reading_rel : (R : Reading → Reading → Type 0) → R no_reading no_reading
      → (a b : List (Actor M)) → ((l : Link) → R (in_at a l) (in_at b l)) → (o : Option Link)
      → R (reading_by a o) (reading_by b o)
  reading_rel R r a b each None = r
  reading_rel R r a b each (Some l) = each l

  -- a look leaves the state
  pub sees_state : (shows : M → Shown) (pipes : List Link) (a b : List (Actor M))
      (files : FilesShown) → Sees pipes a b
      → SameState (state_by shows a pipes files) (state_by shows b pipes files)
  sees_state shows pipes a b files s = record {
    ends = record {
      writing = λ p. writing_rel SameWriting (same_writing_refl no_writing) a b
          (λ l. let t = s.nodes l.writer in t.writing l.branch) (slice_get pipes p);
      reading = λ p. reading_rel SameReading (same_reading_refl no_reading) a b
          (λ l. let t = s.nodes l.reader in t.reading l.input) (slice_get pipes p);
    };
    parts = λ k. let t = s.nodes k in t.part_is shows files;
  }

  -- ---- a step of one node

  abbrev as_source : SourceShown → Actor M
  as_source x = an.Source x

  abbrev as_sink : SinkShown → Actor M
  as_sink y = an.Sink y

  module _ (shows : M → Shown) (old new : FilesShown) (st : Step) where
    -- another node is as it was
    pub same_part : (a b c : Actor M) → Acts shows a b old new st
        → ((file : ℕ) → in_file a ≡ Some file → in_file c ≡ Some file → ⊥)
        → ((file : ℕ) → out_file a ≡ Some file → out_file c ≡ Some file → ⊥)
        → part_of shows new c ≡ part_of shows old c
    same_part a b (an.Source x) h ins outs =
        ap (λ (log : ReadLog). OfSource (source_part log.bytes x))
        (same_read shows old new st a b (an.Source x) h ins)
    same_part a b (an.Stage t) h ins outs = refl
    same_part a b (an.Sink y) h ins outs =
        ap (λ (log : WriteLog). OfSink (sink_part log y))
        (same_written shows old new st a b (an.Sink y) h outs y.file refl)
    same_part a b an.Lent h ins outs = refl

    -- a node that does not run stays as it is, and so do the files
    pub acts_stays : (a b : Actor M) → Acts shows a b old new st
        → node_state_of (part_of shows old a) ≢ Running → (b ≡ a) × (new ≡ old)
    acts_stays (an.Source x) (an.Source z) h halted =
        let s = h.stays halted in
        (ap as_source s.0, s.1)
    acts_stays (an.Stage t) (an.Stage u) h halted =
        (ap (λ (v : Staged M). an.Stage v) (h.0.stays halted), h.1)
    acts_stays (an.Sink y) (an.Sink z) h halted = let s = h.stays halted in (ap as_sink s.0, s.1)
    acts_stays a b h halted = absurd h

    pub acts_failures : (a b : Actor M) → Acts shows a b old new st
        → new.failures ≡ failures_after (node_state_of (part_of shows old a))
        (node_state_of (part_of shows new b)) old.failures
    acts_failures (an.Source x) (an.Source z) h = h.failures
    acts_failures (an.Stage t) (an.Stage u) h = ap (λ (f : FilesShown). f.failures) h.1
        ∙ stage_failures t.state u.state old.failures h.0.fault
    acts_failures (an.Sink y) (an.Sink z) h = h.failures
    acts_failures a b h = absurd h

  module _ (shows : M → Shown) (g : Graph) (k : ℕ) (n : Networked M) (later : List (Actor M))
      (old new : FilesShown) (st : Step) (of : IsOf g n) (lt : k < length n.nodes)
      (s : StepsAt shows k n.pipes (let w = n.wires in
      slice_index_or w k []) n.nodes later old new st) (apart : AreApart n.nodes) where
    abbrev moved : List (Actor M)
    moved = set n.nodes k s.actor

    abbrev before : State
    before = state_by shows n.nodes n.pipes old

    abbrev between : State
    between = state_by shows moved n.pipes new

    writes_on : (l : Link) → WritesOn (out_at n.nodes l) (out_at moved l)
    writes_on l =
        each_node (λ i a. WritesOn (out_end (actor_at n.nodes i) l.branch) (out_end a l.branch))
        n.nodes k s.actor lt (acts_writes shows old new st
        (actor_at n.nodes k) s.actor s.acts l.branch)
        (λ i ne. writes_on_refl (out_end (actor_at n.nodes i) l.branch)) l.writer

    reads_on : (l : Link) → ReadsOn (in_at n.nodes l) (in_at moved l)
    reads_on l = each_node (λ i a. ReadsOn (in_end (actor_at n.nodes i) l.input) (in_end a l.input))
        n.nodes k s.actor lt (acts_reads shows old new st
        (actor_at n.nodes k) s.actor s.acts l.input)
        (λ i ne. reads_on_refl (in_end (actor_at n.nodes i) l.input)) l.reader

    other_writing : (p : ℕ) → writer g p ≢ k → (o : Option Link) → slice_get n.pipes p ≡ o
        → SameWriting (writing_by n.nodes o) (writing_by moved o)
    other_writing p ne None e = same_writing_refl no_writing
    other_writing p ne (Some l) e =
        subst (λ (w : Writing). SameWriting (out_at n.nodes l) w)
        (sym (ap (λ (a : Actor M). out_end a l.branch)
        (at_else n.nodes k l.writer s.actor (λ q. ne (writer_is g n of p l e ∙ q)))))
        (same_writing_refl (out_at n.nodes l))

    other_reading : (p : ℕ) → reader g p ≢ k → (o : Option Link) → slice_get n.pipes p ≡ o
        → SameReading (reading_by n.nodes o) (reading_by moved o)
    other_reading p ne None e = same_reading_refl no_reading
    other_reading p ne (Some l) e =
        subst (λ (r : Reading). SameReading (in_at n.nodes l) r)
        (sym (ap (λ (a : Actor M). in_end a l.input)
        (at_else n.nodes k l.reader s.actor (λ q. ne (reader_is g n of p l e ∙ q)))))
        (same_reading_refl (in_at n.nodes l))

    halted_state : node_state_of (part_of shows old (actor_at n.nodes k)) ≢ Running
        → SameState before between
    halted_state halted =
        let stays = acts_stays shows old new st (actor_at n.nodes k) s.actor s.acts halted in
        let same : (j : ℕ) → actor_at moved j ≡ actor_at n.nodes j =
        each_node (λ i a. a ≡ actor_at n.nodes i) n.nodes k s.actor lt stays.0 (λ i ne. refl) in
        record {
          ends = record {
            writing = λ p. writing_rel SameWriting (same_writing_refl no_writing) n.nodes moved
                (λ l. subst (λ (a : Actor M). SameWriting (out_at n.nodes l) (out_end a l.branch))
                (sym (same l.writer)) (same_writing_refl (out_at n.nodes l))) (slice_get n.pipes p);
            reading = λ p. reading_rel SameReading (same_reading_refl no_reading) n.nodes moved
                (λ l. subst (λ (a : Actor M). SameReading (in_at n.nodes l) (in_end a l.input))
                (sym (same l.reader)) (same_reading_refl (in_at n.nodes l))) (slice_get n.pipes p);
          };
          parts = λ j. ap (λ (f : FilesShown). part_of shows f (actor_at moved j)) stays.1
              ∙ ap (λ (a : Actor M). part_of shows old a) (same j);
        }

    pub part_now : part_of shows new (actor_at moved k) ≡ part_of shows new s.actor
    part_now = ap (λ (a : Actor M). part_of shows new a) (at_same n.nodes k s.actor lt)

    acts_step : IsStep g k before between old.failures new.failures
    acts_step = record {
      others = λ j within ne.
          ap (λ (a : Actor M). part_of shows new a) (at_else n.nodes k j s.actor ne)
          ∙ same_part shows old new st (actor_at n.nodes k) s.actor (actor_at n.nodes j) s.acts
          (λ file a b. apart.ins j k file ne b a) (λ file a b. apart.outs j k file ne b a);
      writing = λ p is ne. other_writing p ne (slice_get n.pipes p) refl;
      reading = λ p is ne. other_reading p ne (slice_get n.pipes p) refl;
      writes_on = λ p. writing_rel WritesOn (writes_on_refl no_writing) n.nodes moved writes_on
          (slice_get n.pipes p);
      reads_on = λ p. reading_rel ReadsOn (reads_on_refl no_reading) n.nodes moved reads_on
          (slice_get n.pipes p);
      halted = halted_state;
      failures =
          acts_failures shows old new st (actor_at n.nodes k) s.actor s.acts
          ∙ ap (λ (x : Part). failures_after
          (node_state_of (part_of shows old (actor_at n.nodes k)))
          (node_state_of x) old.failures) (sym part_now);
    }

    pub looked_state : SameState between (state_by shows later n.pipes new)
    looked_state = let e = s.sees in sees_state shows n.pipes moved later new e.sees

    pub is_step : IsStep g k before (state_by shows later n.pipes new) old.failures new.failures
    is_step = step_between g k before before between
        (state_by shows later n.pipes new) old.failures new.failures
        (same_state_refl before) acts_step looked_state
