-- A network that is right is in a lawful state.
use Rattle.std.proofs.Common.{◌≡◌, ℕ, zero, suc, ◌<◌, List, [], ◌∷◌, Bool, Option, Some, get_or}
use Rattle.std.proofs.Common.{length, map, refl, ap, ◌∙◌, sym, subst, subst₂, arith, ⊎_elim}
use Rattle.std.specs.Prelude.{unwrap_or, slice_get, is_some}
use Rattle.std.specs.List.{AllZip}
use Rattle.std.proofs.lemmas.Bool.{cases_lt, false≢true}
use Rattle.std.proofs.lemmas.Option.{slice_get_within, slice_get_past}
use Rattle.machine.specs.Law.{Shown}
use Rattle.machine.specs.Whole.{StreamAnswer}
use Rattle.machine.specs.Items.{IsTidy}
use Rattle.bounded_pipe.specs.Ends.{Writing, Reading}
use Rattle.bounded_pipe.proofs.Records.{beside_consistent}
use Rattle.bounded_pipe.specs.Pipes.{items_put, IsSound}
use Rattle.collector.specs.Files.{FilesShown, log_of}
use Rattle.collector.specs.Nodes.{SourceShown, SinkShown, source_part, read_by, sink_part}
use Rattle.collector.specs.Sources.{SourcePart, SourceCase, SinkCase}
use Rattle.run_types.specs.declared.node_state.NodeState.{NodeState}
use Rattle.run_types.specs.declared.node_state.NodeState.TheVariants.{Running, Ended, Broken}
use Rattle.run_types.specs.declared.node_state.NodeState.TheVariants.{Failed}
use Rattle.splice_tee.specs.declared.branches.Served.{Served}
use Rattle.stages.specs.inner.Steps.{part}
use Rattle.stages.specs.Stages.{StagePart, StageCase}
use Rattle.graphs.specs.Graph.{GraphNode, IsPipe, Writes, Reads, node_at, present}
use Rattle.network_laws.specs.State.{Setup, State, NodeCase, IsLawful, told, answer_of}
use Rattle.network_laws.specs.State.{gives_nothing, NoNode, CaseOfSource, CaseOfStage, CaseOfSink}
use Rattle.network_nodes.specs.declared.actor.Actor.{Actor}
use Rattle.network_nodes.specs.declared.actor.Actor.TheVariants as an
use Rattle.network_nodes.specs.declared.actor.Link.{Link}
use Rattle.network_nodes.specs.inner.Actors.{no_writing, no_reading, outs_of, ins_of, out_pipes}
use Rattle.network_nodes.specs.inner.Actors.{in_pipes, out_end, in_end, out_at, in_at, actor_at}
use Rattle.networks.specs.Networks.{Networked, writing_by, reading_by, part_of, network_state}
use Rattle.networks.specs.Networks.{FitsAt, FitsSource, FitsStage, FitsSink, AreWired, IsRight}
use Rattle.networks.proofs.StateLaws.{writer_is, reader_is, pipe_count, link_is}

source_tidy : (block : ℕ) (nothing : Bool) (x : SourcePart) (state : NodeState) (w : Writing)
    → SourceCase block nothing x state w → IsTidy block (items_put w)
source_tidy block nothing x Running w c = c.tidy
source_tidy block nothing x Ended w c = c.0.tidy
source_tidy block nothing x Broken w c = c.0.tidy
source_tidy block nothing x (Failed fault) w c = c.tidy

branch_tidy : (P : Writing → Served → Type 0) (block : ℕ)
    → ((w : Writing) (s : Served) → P w s → IsTidy block (items_put w))
    → (d : Writing) (outs : List Writing) (served : List Served) → AllZip P outs served → (b : ℕ)
    → b < length outs → IsTidy block (items_put (get_or outs b d))
branch_tidy P block tidy d [] served each b lt = absurd (omega (arith, lt))
branch_tidy P block tidy d (w ∷ outs) [] each b lt = absurd each
branch_tidy P block tidy d (w ∷ outs) (s ∷ served) each zero lt = tidy w s each.0
branch_tidy P block tidy d (w ∷ outs) (s ∷ served) each (suc b) lt =
    branch_tidy P block tidy d outs served each.1 b (omega (arith, lt))

stage_tidy : (block : ℕ) (answer : StreamAnswer) (x : StagePart) (state : NodeState)
    (ins : List Reading) (d : Writing) (outs : List Writing)
    → StageCase block answer x state ins outs → (b : ℕ) → b < length outs
    → IsTidy block (items_put (get_or outs b d))
stage_tidy block answer x Running ins d outs c b i =
    branch_tidy _ block (λ w s b. b.tidy) d outs x.served c.branches b i
stage_tidy block answer x Ended ins d outs c b i =
    branch_tidy _ block (λ w s b. b.tidy) d outs x.served c.0.branches b i
stage_tidy block answer x Broken ins d outs c b i =
    branch_tidy _ block (λ w s b. b.tidy) d outs x.served c.0.branches b i
stage_tidy block answer x (Failed fault) ins d outs c b i =
    branch_tidy _ block (λ w s b. b.tidy) d outs x.served c.branches b i

-- each of a node's own ends is that of its pipe
pub own_ends : {E : Type 0} (f : ℕ → E) (d : E) (pipes : List ℕ) (ends : List E)
    → length ends ≡ length pipes → ((b p : ℕ) → slice_get pipes b ≡ Some p → f p ≡ get_or ends b d)
    → map f pipes ≡ ends
own_ends f d [] [] count each = refl
own_ends {E} f d (p ∷ pipes) (e ∷ ends) count each =
    ap (λ (x : E). x ∷ map f pipes) (each 0 p refl)
    ∙ ap (λ (xs : List E). e ∷ xs)
    (own_ends f d pipes ends (omega (arith, count)) (λ b q h. each (suc b) q h))
own_ends f d _ _ count each = absurd (omega (arith, count))

-- a place in a list of one is its first
first_place : (q p b : ℕ) → slice_get (q ∷ []) b ≡ Some p → (b ≡ 0) × (p ≡ q)
first_place q p zero e = (refl, sym (ap (λ (o : Option ℕ). unwrap_or o 0) e))
first_place q p (suc b) e = absurd (false≢true (ap (λ (o : Option ℕ). is_some o) e))

module _ {M : Type 0} (shows : M → Shown) (s : Setup) (n : Networked M) (files : FilesShown) where
  out_tidy : (k : ℕ) (node : Option GraphNode) (a : Actor M) → FitsAt shows s files k node a
      → (b : ℕ) → b < length (outs_of a) → IsTidy s.block (items_put (out_end a b))
  out_tidy k _ _ (FitsSource {x = x} file fits block) zero lt =
      subst (λ (m : ℕ). IsTidy m (items_put x.end)) block
      (source_tidy x.block _ _ x.state x.end fits.case)
  out_tidy k _ _ (FitsStage {filter} {inputs} {t = t} ins outs case block) b lt =
      subst (λ (m : ℕ). IsTidy m (items_put (get_or t.outlet.ends b no_writing))) block
      (stage_tidy t.outlet.block (answer_of filter (told s inputs))
      (part shows t) t.state t.inlet.ends no_writing t.outlet.ends case b lt)
  out_tidy k _ _ _ _ lt = absurd (omega (arith, lt))

  module _ (r : IsRight shows s n files) where
    abbrev st : State
    st = network_state shows n files

    abbrev wired : AreWired n.nodes n.pipes
    wired = let j = r.joined in j.wired

    -- the end of an own pipe of the node k
    pub writing_own : (k b p : ℕ) (a : Actor M) → actor_at n.nodes k ≡ a
        → slice_get (out_pipes a) b ≡ Some p → st.writing p ≡ out_end a b
    writing_own k b p a e h =
        let num = wired.numbered k in
        let l = num.outs b p (ap (λ (u : Actor M). slice_get (out_pipes u) b) e ∙ h) in
        ap (λ (o : Option Link). writing_by n.nodes o) l.1
        ∙ (ap (λ (j : ℕ). out_end (actor_at n.nodes j) l.0.branch) l.2
        ∙ (ap (λ (j : ℕ). out_end (actor_at n.nodes k) j) l.3
        ∙ ap (λ (u : Actor M). out_end u b) e))

    pub reading_own : (k b p : ℕ) (a : Actor M) → actor_at n.nodes k ≡ a
        → slice_get (in_pipes a) b ≡ Some p → st.reading p ≡ in_end a b
    reading_own k b p a e h =
        let num = wired.numbered k in
        let l = num.ins b p (ap (λ (u : Actor M). slice_get (in_pipes u) b) e ∙ h) in
        ap (λ (o : Option Link). reading_by n.nodes o) l.1
        ∙ (ap (λ (j : ℕ). in_end (actor_at n.nodes j) l.0.input) l.2
        ∙ (ap (λ (j : ℕ). in_end (actor_at n.nodes k) j) l.3
        ∙ ap (λ (u : Actor M). in_end u b) e))

    -- the node's ends are those of its pipes
    pub writings_own : (k : ℕ) (a : Actor M) → actor_at n.nodes k ≡ a
        → map st.writing (out_pipes a) ≡ outs_of a
    writings_own k a e =
        let num = wired.numbered k in
        own_ends st.writing no_writing (out_pipes a) (outs_of a)
        (subst (λ (u : Actor M). length (outs_of u) ≡ length (out_pipes u)) e num.out_count)
        (λ b p h. writing_own k b p a e h)

    pub readings_own : (k : ℕ) (a : Actor M) → actor_at n.nodes k ≡ a
        → map st.reading (in_pipes a) ≡ ins_of a
    readings_own k a e =
        let num = wired.numbered k in
        own_ends st.reading no_reading (in_pipes a) (ins_of a)
        (subst (λ (u : Actor M). length (ins_of u) ≡ length (in_pipes u)) e num.in_count)
        (λ b p h. reading_own k b p a e h)

    -- the place of a pipe that the node k writes, or reads
    pub written_at : (k p : ℕ) (a : Actor M) → actor_at n.nodes k ≡ a → Writes s.graph k p
        → (b : ℕ) × (slice_get (out_pipes a) b ≡ Some p)
    written_at k p a e own =
        let l = link_is n p (omega (arith, pipe_count s.graph n r.graph, own.0)) in
        let w : l.0.writer ≡ k = sym (writer_is s.graph n r.graph p l.0 l.1) ∙ own.1 in
        let placed = wired.placed p l.0 l.1 in (
          l.0.branch,
          ap (λ (u : Actor M). slice_get (out_pipes u) l.0.branch)
              (sym (ap (λ (j : ℕ). actor_at n.nodes j) w ∙ e)) ∙ placed.out,
        )

    pub read_at : (k p : ℕ) (a : Actor M) → actor_at n.nodes k ≡ a → Reads s.graph k p
        → (b : ℕ) × (slice_get (in_pipes a) b ≡ Some p)
    read_at k p a e own =
        let l = link_is n p (omega (arith, pipe_count s.graph n r.graph, own.0)) in
        let w : l.0.reader ≡ k = sym (reader_is s.graph n r.graph p l.0 l.1) ∙ own.1 in
        let placed = wired.placed p l.0 l.1 in (
          l.0.input,
          ap (λ (u : Actor M). slice_get (in_pipes u) l.0.input)
              (sym (ap (λ (j : ℕ). actor_at n.nodes j) w ∙ e)) ∙ placed.in_,
        )

    source_writing : (k p : ℕ) (x : SourceShown) → actor_at n.nodes k ≡ an.Source x
        → Writes s.graph k p → st.writing p ≡ x.end
    source_writing k p x e own =
        let b = written_at k p (an.Source x) e own in
        let z = first_place x.pipe p b.0 b.1 in
        writing_own k b.0 p (an.Source x) e b.1
        ∙ ap (λ (i : ℕ). out_end {M = M} (an.Source x) i) z.0

    sink_reading : (k p : ℕ) (y : SinkShown) → actor_at n.nodes k ≡ an.Sink y → Reads s.graph k p
        → st.reading p ≡ y.end
    sink_reading k p y e own =
        let b = read_at k p (an.Sink y) e own in
        let z = first_place y.pipe p b.0 b.1 in
        reading_own k b.0 p (an.Sink y) e b.1 ∙ ap (λ (i : ℕ). in_end {M = M} (an.Sink y) i) z.0

    node_case : (k : ℕ) (node : Option GraphNode) (a : Actor M) → node_at s.graph k ≡ node
        → actor_at n.nodes k ≡ a → FitsAt shows s files k node a
        → NodeCase s st k node (part_of shows files a)
    node_case k _ _ e f (FitsSource {empty} {x = x} file fits block) = CaseOfSource (λ p own.
        subst (λ (w : Writing). SourceCase s.block (gives_nothing s k empty)
        (source_part (read_by files x.file).bytes x) x.state w)
        (sym (source_writing k p x f own))
        (subst₂ (λ (m : ℕ) (b : Bool). SourceCase m b
        (source_part (read_by files x.file).bytes x) x.state x.end) block file fits.case))
    node_case k _ _ e f (FitsStage {filter} {inputs} {branches} {t} i o case block) =
        let ins : map st.reading inputs ≡ t.inlet.ends =
        ap (λ (ps : List ℕ). map st.reading ps) (sym i) ∙ readings_own k (an.Stage t) f in
        let outs : map st.writing (present branches) ≡ t.outlet.ends =
        ap (λ (ps : List ℕ). map st.writing ps) (sym o) ∙ writings_own k (an.Stage t) f in
        CaseOfStage
        (subst₂ (λ (i : List Reading) (o : List Writing). StageCase s.block
        (answer_of filter (told s inputs)) (part shows t) t.state i o) (sym ins) (sym outs)
        (subst (λ (m : ℕ). StageCase m (answer_of filter (told s inputs))
        (part shows t) t.state t.inlet.ends t.outlet.ends) block case))
    node_case k _ _ e f (FitsSink {y} fits unended) = CaseOfSink (λ p own.
        subst (λ (q : Reading). SinkCase (sink_part (log_of files y.file) y) y.state q)
        (sym (sink_reading k p y f own)) fits)

    pipe_sound : (p : ℕ) → IsPipe s.graph p → IsSound s.block (st.writing p) (st.reading p)
    pipe_sound p is =
        let l = link_is n p (omega (arith, pipe_count s.graph n r.graph, is)) in
        let placed = wired.placed p l.0 l.1 in
        let num = wired.numbered l.0.writer in
        let within : l.0.branch < length (outs_of (actor_at n.nodes l.0.writer)) =
        omega (
          arith,
          num.out_count,
          slice_get_within
              (out_pipes (actor_at n.nodes l.0.writer)) l.0.branch p placed.out,
        ) in
        let node : l.0.writer < length n.nodes = omega (arith, placed.order, placed.within) in
        subst (λ (o : Option Link). IsSound s.block (writing_by n.nodes o) (reading_by n.nodes o))
        (sym l.1)
        (record {
          ends = beside_consistent (out_at n.nodes l.0) (in_at n.nodes l.0) (let j = r.joined in
              j.beside p l.0 l.1);
          tidy = out_tidy l.0.writer (node_at s.graph l.0.writer) (actor_at n.nodes l.0.writer)
              (r.fits l.0.writer node) l.0.branch within;
        })

    pub is_lawful : IsLawful s st
    is_lawful = record {
      pipes = pipe_sound;
      nodes = λ k. ⊎_elim
          (λ lt. node_case k (node_at s.graph k) (actor_at n.nodes k) refl refl (r.fits k lt))
          (λ le.
          let g = r.graph in
          let none = slice_get_past s.graph.nodes k (omega (arith, g.count, le)) in
          subst (λ (o : Option GraphNode). NodeCase s st k o
          (part_of shows files (actor_at n.nodes k))) (sym none) NoNode)
          (cases_lt k (length n.nodes));
    }
