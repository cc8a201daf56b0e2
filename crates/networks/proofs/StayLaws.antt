-- A look at a pipe of a network, or its growth, leaves the nodes as they are, but for their ends.
use Rattle.std.proofs.Common.{◌≡◌, ◌≢◌, ℕ, zero, suc, ◌<◌, List, [], ◌∷◌, ◌++◌, Bool, Option, Some}
use Rattle.std.proofs.Common.{get_or, set, length, refl, ap, ◌∙◌, sym, subst, subst₂, arith, ⊎_elim}
use Rattle.std.proofs.Common.{get_or-set_other, get_or-set_same, length-set}
use Rattle.std.specs.Prelude.{unwrap_or, slice_get}
use Rattle.std.specs.List.{HoldsAt}
use Rattle.std.proofs.lemmas.Bool.{cases_eq}
use Rattle.std.proofs.lemmas.List.{get_or_default}
use Rattle.machine.specs.Items.{bytes_of, has_close, IsTidy}
use Rattle.machine.specs.Law.{Shown}
use Rattle.machine.specs.declared.piece.Item.{Item}
use Rattle.bounded_pipe.specs.Ends.{Writing, Reading, Beside}
use Rattle.bounded_pipe.specs.Events.{SameWriting, SameReading, StillWriting, StillReading}
use Rattle.collector.specs.Files.{FilesShown, ReadLog, WriteLog, log_of}
use Rattle.collector.specs.Nodes.{SourceShown, SinkShown, SourceFits, SinkFits, IsUnended, read_by}
use Rattle.collector.specs.Sources.{SourcePart, SinkPart, SourceKeeps, SourceCase, SinkKeeps}
use Rattle.collector.specs.Sources.{SinkCase, held_bytes}
use Rattle.run_types.specs.declared.node_state.NodeState.{NodeState}
use Rattle.run_types.specs.declared.node_state.NodeState.TheVariants.{Running, Ended, Broken}
use Rattle.run_types.specs.declared.node_state.NodeState.TheVariants.{Failed}
use Rattle.stages.specs.inner.Staged.{Staged}
use Rattle.stages.proofs.Looks.{case_grown_in, case_grown_out}
use Rattle.graphs.specs.Graph.{GraphNode}
use Rattle.network_laws.specs.State.{Setup, told, answer_of}
use Rattle.network_nodes.specs.declared.actor.Actor.{Actor}
use Rattle.network_nodes.specs.declared.actor.Actor.TheVariants as an
use Rattle.network_nodes.specs.declared.actor.Link.{Link}
use Rattle.network_nodes.specs.inner.Actors.{no_writing, no_reading, outs_of, ins_of, out_pipes}
use Rattle.network_nodes.specs.inner.Actors.{in_pipes, with_out, with_in, out_end, in_end, out_at}
use Rattle.network_nodes.specs.inner.Actors.{in_at, actor_at, HasEnds, ChangesAt}
use Rattle.networks.specs.Networks.{FitsAt, FitsSource, FitsStage, FitsSink, AreWired, Face}
use Rattle.networks.specs.inner.Steps.{StaysBy}
use Rattle.networks.proofs.Same.{same_actor_refl}
use Rattle.network_laws.proofs.StepLaws.{same_writing_refl, same_reading_refl}

-- ---- a source and a sink keep their cases when their ends are looked at

source_same : (block : ℕ) (nothing : Bool) (x : SourcePart) (w v : Writing) → v.put ≡ w.put
    → SourceKeeps block nothing x w → SourceKeeps block nothing x v
source_same block nothing x w v e k =
    record {
      bytes = ap (λ (q : List Item). bytes_of q ++ held_bytes x.held) e ∙ k.bytes;
      unread = k.unread;
      close = λ h. k.close (sym (ap has_close e) ∙ h);
      held = k.held;
      tidy = subst (IsTidy block) (sym e) k.tidy;
    }

source_case_same : (block : ℕ) (nothing : Bool) (x : SourcePart) (state : NodeState) (w v : Writing)
    → v.put ≡ w.put → v.noted ≡ w.noted → SourceCase block nothing x state w
    → SourceCase block nothing x state v
source_case_same block nothing x Running w v e f c = source_same block nothing x w v e c
source_case_same block nothing x Ended w v e f c =
    (source_same block nothing x w v e c.0, ap has_close e ∙ c.1)
source_case_same block nothing x Broken w v e f c = (source_same block nothing x w v e c.0, f ∙ c.1)
source_case_same block nothing x (Failed fault) w v e f c =
    record {
      bytes = let h = c.bytes in (h.0, ap (λ (q : List Item). bytes_of q ++ h.0) e ∙ h.1);
      unread = c.unread;
      unclosed = ap has_close e ∙ c.unclosed;
      tidy = subst (IsTidy block) (sym e) c.tidy;
    }

source_looked : (log : ReadLog) (x : SourceShown) (v : Writing) → StillWriting x.end v
    → SourceFits log x → SourceFits log (record x { end = v })
source_looked log x v s f =
    record {
      at_end = f.at_end;
      unclosed = λ h. ap has_close s.put ∙ f.unclosed h;
      case = source_case_same x.block _ _ x.state x.end v s.put s.noted f.case;
    }

sink_same : (x : SinkPart) (r q : Reading) → q.taken ≡ r.taken → q.hung_up ≡ r.hung_up
    → SinkKeeps x r → SinkKeeps x q
sink_same x r q e f k = record { bytes = k.bytes ∙ sym (ap bytes_of e); stays = f ∙ k.stays }

sink_case_same : (x : SinkPart) (state : NodeState) (r q : Reading) → q.taken ≡ r.taken
    → q.hung_up ≡ r.hung_up → SinkCase x state r → SinkCase x state q
sink_case_same x Running r q e f c = sink_same x r q e f c
sink_case_same x Ended r q e f c = (sink_same x r q e f c.0, ap has_close e ∙ c.1, c.2)
sink_case_same x Broken r q e f c = c
sink_case_same x (Failed fault) r q e f c = ((c.0.0, c.0.1 ∙ sym (ap bytes_of e)), c.1)

pub sink_looked : (log : WriteLog) (x : SinkShown) (q : Reading) → StillReading x.end q
    → SinkFits log x → SinkFits log (record x { end = q })
sink_looked log x q s f = sink_case_same _ x.state x.end q s.taken s.hung_up f

unended_looked : (y : SinkShown) (end : Reading) → StillReading y.end end → IsUnended y
    → IsUnended (record y { end = end })
unended_looked y end same u = λ running. ap has_close same.taken ∙ u running

-- ---- one end in a list is another

set_rel : {A : Type 0} (R : A → A → Type 0) → ((x : A) → R x x) → (xs : List A) (k : ℕ) (y d : A)
    → R (get_or xs k d) y → (j : ℕ) → R (get_or xs j d) (get_or (set xs k y) j d)
set_rel R r [] k y d h j = r d
set_rel R r (x ∷ xs) zero y d h zero = h
set_rel R r (x ∷ xs) zero y d h (suc j) = r (get_or xs j d)
set_rel R r (x ∷ xs) (suc k) y d h zero = r x
set_rel R r (x ∷ xs) (suc k) y d h (suc j) = set_rel R r xs k y d h j

held_any : {A : Type 0} (P : A → Type 0) (xs : List A) (k : ℕ) (d : A) → k < length xs
    → P (get_or xs k d) → HoldsAt P xs k
held_any P xs k d lt h = λ e. subst P (get_or_default xs k d e lt) h

-- ---- relations of ends

-- The relations hold of an end and itself, and whatever they relate has the same record but for its
-- rings.
pub record AreStill (W : Writing → Writing → Type 0) (R : Reading → Reading → Type 0) : Type 0 where
  pub writing : (w : Writing) → W w w
  pub reading : (r : Reading) → R r r
  pub still_writing : (w v : Writing) → W w v → StillWriting w v
  pub still_reading : (r q : Reading) → R r q → StillReading r q

-- those of a look
pub same_are_still : AreStill SameWriting SameReading
same_are_still = record {
  writing = same_writing_refl;
  reading = same_reading_refl;
  still_writing = λ w v s. record { limit = s.limit; put = s.put; noted = s.noted };
  still_reading = λ r q s. record { taken = s.taken; hung_up = s.hung_up };
}

-- those of a growth
pub still_are_still : AreStill StillWriting StillReading
still_are_still = record {
  writing = λ w. record { limit = refl; put = refl; noted = refl };
  reading = λ r. record { taken = refl; hung_up = refl };
  still_writing = λ w v s. s;
  still_reading = λ r q s. s;
}

module _ {M : Type 0} where
  -- ---- a look at one end of a node

  source_fits : (x : SourceShown) (e : Writing) → StillWriting x.end e
      → (shows : M → Shown) (s : Setup) (files : FilesShown) (k : ℕ) (node : Option GraphNode)
      → FitsAt shows s files k node (an.Source x)
      → FitsAt shows s files k node (an.Source (record x { end = e }))
  source_fits x e same shows s files k _ (FitsSource file fits block) =
      FitsSource file (source_looked (read_by files x.file) x e same fits) block

  stage_out_fits : (t : Staged M) (b : ℕ) (e : Writing) → b < length t.outlet.ends
      → StillWriting (get_or t.outlet.ends b no_writing) e
      → (shows : M → Shown) (s : Setup) (files : FilesShown) (k : ℕ) (node : Option GraphNode)
      → FitsAt shows s files k node (an.Stage t)
      → FitsAt shows s files k node (with_out (an.Stage t) b e)
  stage_out_fits t b e lt same shows s files k _ (FitsStage {filter} {inputs} ins outs case block) =
      FitsStage ins outs (case_grown_out (answer_of filter (told s inputs)) t.state
      (shows t.machine) t.inlet t.outlet b e
      (held_any (λ w. StillWriting w e) t.outlet.ends b no_writing lt same) case) block

  stage_in_fits : (t : Staged M) (b : ℕ) (e : Reading) → b < length t.inlet.ends
      → StillReading (get_or t.inlet.ends b no_reading) e
      → (shows : M → Shown) (s : Setup) (files : FilesShown) (k : ℕ) (node : Option GraphNode)
      → FitsAt shows s files k node (an.Stage t)
      → FitsAt shows s files k node (with_in (an.Stage t) b e)
  stage_in_fits t b e lt same shows s files k _ (FitsStage {filter} {inputs} ins outs case block) =
      FitsStage ins outs (case_grown_in (answer_of filter (told s inputs)) t.state
      (shows t.machine) t.inlet t.outlet b e
      (held_any (λ w. StillReading w e) t.inlet.ends b no_reading lt same) case) block

  sink_fits : (y : SinkShown) (e : Reading) → StillReading y.end e
      → (shows : M → Shown) (s : Setup) (files : FilesShown) (k : ℕ) (node : Option GraphNode)
      → FitsAt shows s files k node (an.Sink y)
      → FitsAt shows s files k node (an.Sink (record y { end = e }))
  sink_fits y e same shows s files k _ (FitsSink fits unended) =
      FitsSink (sink_looked (log_of files y.file) y e same fits)
      (unended_looked y e same unended)

  outs_with_out : (a : Actor M) (b : ℕ) (e : Writing)
      → outs_of (with_out a b e) ≡ set (outs_of a) b e
  outs_with_out (an.Source x) zero e = refl
  outs_with_out (an.Source x) (suc b) e = refl
  outs_with_out (an.Stage t) b e = refl
  outs_with_out (an.Sink y) b e = refl
  outs_with_out an.Lent b e = refl

  ins_with_out : (a : Actor M) (b : ℕ) (e : Writing) → ins_of (with_out a b e) ≡ ins_of a
  ins_with_out (an.Source x) zero e = refl
  ins_with_out (an.Source x) (suc b) e = refl
  ins_with_out (an.Stage t) b e = refl
  ins_with_out (an.Sink y) b e = refl
  ins_with_out an.Lent b e = refl

  ins_with_in : (a : Actor M) (b : ℕ) (e : Reading) → ins_of (with_in a b e) ≡ set (ins_of a) b e
  ins_with_in (an.Source x) b e = refl
  ins_with_in (an.Stage t) b e = refl
  ins_with_in (an.Sink y) zero e = refl
  ins_with_in (an.Sink y) (suc b) e = refl
  ins_with_in an.Lent b e = refl

  outs_with_in : (a : Actor M) (b : ℕ) (e : Reading) → outs_of (with_in a b e) ≡ outs_of a
  outs_with_in (an.Source x) b e = refl
  outs_with_in (an.Stage t) b e = refl
  outs_with_in (an.Sink y) zero e = refl
  outs_with_in (an.Sink y) (suc b) e = refl
  outs_with_in an.Lent b e = refl

  -- ---- a change of one end of a node, and of a pipe

  module _ (W : Writing → Writing → Type 0) (R : Reading → Reading
      → Type 0) (by : AreStill W R) where
    pub stays_refl : (a : Actor M) → StaysBy W R a a
    stays_refl a = record {
      same = same_actor_refl a;
      out_count = refl;
      in_count = refl;
      writing = λ k. by.writing (out_end a k);
      reading = λ k. by.reading (in_end a k);
      here = λ h. h;
      file = λ files h. h;
      part_is = λ shows files. refl;
      fits = λ shows s files k node h. h;
    }

    pub out_stays : (a : Actor M) (b : ℕ) (e : Writing) → b < length (outs_of a) → W (out_end a b) e
        → StaysBy W R a (with_out a b e)
    out_stays (an.Source x) zero e lt same = record {
      same = refl;
      out_count = refl;
      in_count = refl;
      writing = set_rel W by.writing (x.end ∷ []) zero e no_writing same;
      reading = λ k. by.reading (in_end {M = M} (an.Source x) k);
      here = λ h. h;
      file = λ files h. h;
      part_is = λ shows files. refl;
      fits = source_fits x e (by.still_writing x.end e same);
    }
    out_stays (an.Source x) (suc b) e lt same = stays_refl (an.Source x)
    out_stays (an.Stage t) b e lt same = record {
      same = refl;
      out_count = length-set t.outlet.ends b e;
      in_count = refl;
      writing = set_rel W by.writing t.outlet.ends b e no_writing same;
      reading = λ k. by.reading (in_end (an.Stage t) k);
      here = λ h. h;
      file = λ files h. h;
      part_is = λ shows files. refl;
      fits = stage_out_fits t b e lt (by.still_writing (get_or t.outlet.ends b no_writing) e same);
    }
    out_stays (an.Sink y) b e lt same = stays_refl (an.Sink y)
    out_stays an.Lent b e lt same = stays_refl an.Lent

    pub in_stays : (a : Actor M) (b : ℕ) (e : Reading) → b < length (ins_of a) → R (in_end a b) e
        → StaysBy W R a (with_in a b e)
    in_stays (an.Source x) b e lt same = stays_refl (an.Source x)
    in_stays (an.Stage t) b e lt same = record {
      same = refl;
      out_count = refl;
      in_count = length-set t.inlet.ends b e;
      writing = λ k. by.writing (out_end (an.Stage t) k);
      reading = set_rel R by.reading t.inlet.ends b e no_reading same;
      here = λ h. h;
      file = λ files h. h;
      part_is = λ shows files. refl;
      fits = stage_in_fits t b e lt (by.still_reading (get_or t.inlet.ends b no_reading) e same);
    }
    in_stays (an.Sink y) zero e lt same = record {
      same = refl;
      out_count = refl;
      in_count = refl;
      writing = λ k. by.writing (out_end {M = M} (an.Sink y) k);
      reading = set_rel R by.reading (y.end ∷ []) zero e no_reading same;
      here = λ h. h;
      file = λ files h. h;
      part_is = λ shows files. refl;
      fits = sink_fits y e (by.still_reading y.end e same);
    }
    in_stays (an.Sink y) (suc b) e lt same = stays_refl (an.Sink y)
    in_stays an.Lent b e lt same = stays_refl an.Lent

    -- ---- a look at a pipe, or its growth

    module _ (old new : List (Actor M)) (l : Link) (has : HasEnds l old)
        (s : ChangesAt W R l old new) where
      abbrev before : List (Actor M)
      before = set old l.writer s.writer

      at_reader : actor_at new l.reader ≡ s.reader
      at_reader = ap (λ (xs : List (Actor M)). actor_at xs l.reader) s.only
          ∙ get_or-set_same before l.reader s.reader an.Lent
          (omega (arith, length-set old l.writer s.writer, has.within))

      pub at_writer : actor_at new l.writer ≡ s.writer
      at_writer =
          ap (λ (xs : List (Actor M)). actor_at xs l.writer) s.only
          ∙ (get_or-set_other before l.reader l.writer s.reader an.Lent
          (λ e. omega (arith, has.order, e))
          ∙ get_or-set_same old l.writer s.writer an.Lent (omega (arith, has.order, has.within)))

      at_other : (k : ℕ) → (k ≡ l.reader → ⊥) → (k ≡ l.writer → ⊥) → actor_at new k ≡ actor_at old k
      at_other k r w =
          ap (λ (xs : List (Actor M)). actor_at xs k) s.only
          ∙ (get_or-set_other before l.reader k s.reader an.Lent r
          ∙ get_or-set_other old l.writer k s.writer an.Lent w)

      reader_stays : StaysBy W R (actor_at old l.reader) (actor_at new l.reader)
      reader_stays = subst (λ (a : Actor M). StaysBy W R (actor_at old l.reader) a)
          (sym (at_reader ∙ s.in_.only))
          (in_stays (actor_at old l.reader) l.input s.in_.end has.input s.in_.changes)

      writer_stays : StaysBy W R (actor_at old l.writer) (actor_at new l.writer)
      writer_stays = subst (λ (a : Actor M). StaysBy W R (actor_at old l.writer) a)
          (sym (at_writer ∙ s.out.only))
          (out_stays (actor_at old l.writer) l.branch s.out.end has.branch s.out.changes)

      pub node_stays : (k : ℕ) → StaysBy W R (actor_at old k) (actor_at new k)
      node_stays k = ⊎_elim
          (λ e. subst (λ (j : ℕ). StaysBy W R (actor_at old j) (actor_at new j))
          (sym e) reader_stays)
          (λ nr. ⊎_elim
          (λ e. subst (λ (j : ℕ). StaysBy W R (actor_at old j) (actor_at new j))
          (sym e) writer_stays)
          (λ nw. subst (λ (a : Actor M). StaysBy W R (actor_at old k) a) (sym (at_other k nr nw))
          (stays_refl (actor_at old k)))
          (cases_eq k l.writer))
          (cases_eq k l.reader)

      -- an end of another pipe is as it was
      outs_reader : outs_of (actor_at new l.reader) ≡ outs_of (actor_at old l.reader)
      outs_reader = ap outs_of (at_reader ∙ s.in_.only)
          ∙ outs_with_in (actor_at old l.reader) l.input s.in_.end

      outs_writer : outs_of (actor_at new l.writer)
          ≡ set (outs_of (actor_at old l.writer)) l.branch s.out.end
      outs_writer = ap outs_of (at_writer ∙ s.out.only)
          ∙ outs_with_out (actor_at old l.writer) l.branch s.out.end

      ins_reader : ins_of (actor_at new l.reader)
          ≡ set (ins_of (actor_at old l.reader)) l.input s.in_.end
      ins_reader = ap ins_of (at_reader ∙ s.in_.only)
          ∙ ins_with_in (actor_at old l.reader) l.input s.in_.end

      ins_writer : ins_of (actor_at new l.writer) ≡ ins_of (actor_at old l.writer)
      ins_writer = ap ins_of (at_writer ∙ s.out.only)
          ∙ ins_with_out (actor_at old l.writer) l.branch s.out.end

      out_other : (k b : ℕ) → (k ≡ l.writer → b ≡ l.branch → ⊥)
          → out_end (actor_at new k) b ≡ out_end (actor_at old k) b
      out_other k b ne = ⊎_elim
          (λ e. subst (λ (j : ℕ). out_end (actor_at new j) b ≡ out_end (actor_at old j) b) (sym e)
          (ap (λ (xs : List Writing). get_or xs b no_writing) outs_reader))
          (λ nr. ⊎_elim
          (λ e. subst (λ (j : ℕ). out_end (actor_at new j) b ≡ out_end (actor_at old j) b) (sym e)
          (ap (λ (xs : List Writing). get_or xs b no_writing) outs_writer
          ∙ get_or-set_other (outs_of (actor_at old l.writer)) l.branch b s.out.end no_writing
          (ne e)))
          (λ nw. ap (λ (a : Actor M). out_end a b) (at_other k nr nw))
          (cases_eq k l.writer))
          (cases_eq k l.reader)

      in_other : (k b : ℕ) → (k ≡ l.reader → b ≡ l.input → ⊥)
          → in_end (actor_at new k) b ≡ in_end (actor_at old k) b
      in_other k b ne = ⊎_elim
          (λ e. subst (λ (j : ℕ). in_end (actor_at new j) b ≡ in_end (actor_at old j) b) (sym e)
          (ap (λ (xs : List Reading). get_or xs b no_reading) ins_reader
          ∙ get_or-set_other (ins_of (actor_at old l.reader)) l.input b s.in_.end no_reading
          (ne e)))
          (λ nr. ⊎_elim
          (λ e. subst (λ (j : ℕ). in_end (actor_at new j) b ≡ in_end (actor_at old j) b) (sym e)
          (ap (λ (xs : List Reading). get_or xs b no_reading) ins_writer))
          (λ nw. ap (λ (a : Actor M). in_end a b) (at_other k nr nw))
          (cases_eq k l.writer))
          (cases_eq k l.reader)

      pub changed_beside : Beside (out_at new l) (in_at new l)
      changed_beside = subst₂ (λ (a b : Actor M). Beside (out_end a l.branch) (in_end b l.input))
          (sym at_writer) (sym at_reader) s.beside

      module _ (pipes : List Link) (wired : AreWired old pipes) (p : ℕ)
          (is : slice_get pipes p ≡ Some l) where
        same_pipe_out : (q : ℕ) (m : Link) → slice_get pipes q ≡ Some m → m.writer ≡ l.writer
            → m.branch ≡ l.branch → q ≡ p
        same_pipe_out q m e w b =
            let mine = wired.placed p l is in
            let other = wired.placed q m e in
            let there : slice_get (out_pipes (actor_at old l.writer)) l.branch ≡ Some q =
            subst₂ (λ (i j : ℕ). slice_get (out_pipes (actor_at old i)) j ≡ Some q) w b other.out in
            ap (λ (o : Option ℕ). unwrap_or o 0) (sym there ∙ mine.out)

        same_pipe_in : (q : ℕ) (m : Link) → slice_get pipes q ≡ Some m → m.reader ≡ l.reader
            → m.input ≡ l.input → q ≡ p
        same_pipe_in q m e w b =
            let mine = wired.placed p l is in
            let other = wired.placed q m e in
            let there : slice_get (in_pipes (actor_at old l.reader)) l.input ≡ Some q =
            subst₂ (λ (i j : ℕ). slice_get (in_pipes (actor_at old i)) j ≡ Some q) w b other.in_ in
            ap (λ (o : Option ℕ). unwrap_or o 0) (sym there ∙ mine.in_)

        pub all_count : length new ≡ length old
        all_count = ap (λ (xs : List (Actor M)). length xs) s.only
            ∙ (length-set before l.reader s.reader ∙ length-set old l.writer s.writer)

        -- each other pipe is as it was
        pub others : (q : ℕ) (m : Link) → slice_get pipes q ≡ Some m → q ≢ p
            → (out_at new m ≡ out_at old m) × (in_at new m ≡ in_at old m)
        others q m e ne = (
          out_other m.writer m.branch (λ w b. ne (same_pipe_out q m e w b)),
          in_other m.reader m.input (λ r i. ne (same_pipe_in q m e r i)),
        )

        pub still_beside : (q : ℕ) (m : Link) → slice_get pipes q ≡ Some m
            → Beside (out_at old m) (in_at old m) → Beside (out_at new m) (in_at new m)
        still_beside q m e h = ⊎_elim
            (λ same.
            let here : m ≡ l = ap (λ (o : Option Link). unwrap_or o l) (sym e
            ∙ (ap (λ (j : ℕ). slice_get pipes j) same ∙ is)) in
            subst (λ (k : Link). Beside (out_at new k) (in_at new k)) (sym here) changed_beside)
            (λ ne. subst₂ Beside (sym ((others q m e ne).0)) (sym ((others q m e ne).1)) h)
            (cases_eq q p)

  -- the tables still fit the nodes
  pub stays_wired : (W : Writing → Writing → Type 0) (R : Reading → Reading
      → Type 0) (pipes : List Link) (a b : List (Actor M)) → length b ≡ length a
      → ((k : ℕ) → StaysBy W R (actor_at a k) (actor_at b k)) → AreWired a pipes → AreWired b pipes
  stays_wired W R pipes a b count nodes wired = record {
    placed = λ p l e.
        let w = wired.placed p l e in
        record {
          order = w.order;
          within = subst (λ (n : ℕ). l.reader < n) (sym count) w.within;
          out = ap (λ (xs : List ℕ). slice_get xs l.branch)
              (ap (λ (f : Face). f.outs) (nodes l.writer).same) ∙ w.out;
          in_ = ap (λ (xs : List ℕ). slice_get xs l.input)
              (ap (λ (f : Face). f.ins) (nodes l.reader).same) ∙ w.in_;
        };
    numbered = λ k.
        let t = nodes k in
        let n = wired.numbered k in
        record {
          outs = λ i p e. n.outs i p
              (ap (λ (xs : List ℕ). slice_get xs i) (sym (ap (λ (f : Face). f.outs) t.same)) ∙ e);
          ins =
              λ i p e. n.ins i p (ap (λ (xs : List ℕ). slice_get xs i)
              (sym (ap (λ (f : Face). f.ins) t.same)) ∙ e);
          out_count = t.out_count
              ∙ (n.out_count
              ∙ sym (ap (λ (xs : List ℕ). length xs) (ap (λ (f : Face). f.outs) t.same)));
          in_count = t.in_count
              ∙ (n.in_count
              ∙ sym (ap (λ (xs : List ℕ). length xs) (ap (λ (f : Face). f.ins) t.same)));
        };
  }
