-- A step of one node by itself leaves the tables, and the other nodes.
use Rattle.std.proofs.Common.{◌≡◌, ℕ, zero, suc, ◌<◌, List, [], ◌∷◌, Option, Some, None, get_or}
use Rattle.std.proofs.Common.{length, refl, ap, ◌∙◌, sym, subst, ⊎_elim}
use Rattle.std.specs.Prelude.{unwrap_or, slice_get, IsSome, is_none}
use Rattle.std.specs.List.{AllZip}
use Rattle.std.specs.Option.{ForSome}
use Rattle.std.proofs.lemmas.Bool.{cases_eq}
use Rattle.std.proofs.lemmas.Slice.Zip.{AllZip-long}
use Rattle.machine.specs.Law.{Shown}
use Rattle.bounded_pipe.specs.Ends.{Writing, Reading, WritesOn, ReadsOn}
use Rattle.collector.specs.Files.{FilesShown, ReadLog, WriteLog, SameLogs, WritesOnly, log_of}
use Rattle.collector.specs.Files.{nothing_read, nothing_written}
use Rattle.collector.specs.Nodes.{SourceFits, SinkFits, ReadsOwn, read_by}
use Rattle.run_types.specs.declared.step.Step.{Step}
use Rattle.graphs.specs.Graph.{GraphNode}
use Rattle.network_laws.specs.State.{Setup, told, answer_of}
use Rattle.network_nodes.specs.declared.actor.Actor.{Actor}
use Rattle.network_nodes.specs.declared.actor.Actor.TheVariants as an
use Rattle.network_nodes.specs.declared.actor.Link.{Link}
use Rattle.network_nodes.specs.inner.Actors.{no_writing, no_reading, outs_of, ins_of, out_pipes}
use Rattle.network_nodes.specs.inner.Actors.{in_pipes, out_end, in_end, actor_at}
use Rattle.networks.specs.Networks.{FitsAt, FitsSource, FitsStage, FitsSink, HasFile, IsHere}
use Rattle.networks.specs.Networks.{AreWired, in_file, out_file}
use Rattle.networks.specs.inner.Steps.{Acts}
use Rattle.network_laws.proofs.StepLaws.{same_writing_refl, same_reading_refl, same_writes_on}
use Rattle.network_laws.proofs.StepLaws.{same_reads_on}

-- ---- lists that are related place by place

pub zip_get : {A : Type 0} (R : A → A → Type 0) (d : A) → R d d → (xs ys : List A) → AllZip R xs ys
    → (k : ℕ) → R (get_or xs k d) (get_or ys k d)
zip_get R d r [] [] all k = r
zip_get R d r (x ∷ xs) (y ∷ ys) all zero = all.0
zip_get R d r (x ∷ xs) (y ∷ ys) all (suc k) = zip_get R d r xs ys all.1 k
zip_get R d r _ _ all k = absurd all

pub writes_on_refl : (w : Writing) → WritesOn w w
writes_on_refl w = same_writes_on w w (same_writing_refl w)

pub reads_on_refl : (r : Reading) → ReadsOn r r
reads_on_refl r = same_reads_on r r (same_reading_refl r)

-- ---- files

-- the logs of other files stay if only the own file is read, or only the own file is written
pub other_reads : (own other : Option ℕ) (old new : FilesShown) → ReadsOwn own old new
    → ((file : ℕ) → own ≡ Some file → other ≡ Some file → ⊥) → read_by new other ≡ read_by old other
other_reads None None old new h apart = refl
other_reads None (Some file) old new h apart =
    ap (λ (o : Option ReadLog). unwrap_or o nothing_read) (h.inputs file)
other_reads (Some own) None old new h apart = refl
other_reads (Some own) (Some file) old new h apart =
    ap (λ (o : Option ReadLog). unwrap_or o nothing_read)
    (h.inputs file (λ e. apart file (ap (λ (i : ℕ). Some i) (sym e)) refl))

pub own_outputs : (own : Option ℕ) (old new : FilesShown) → ReadsOwn own old new
    → SameLogs old.outputs new.outputs
own_outputs None old new h = h.outputs
own_outputs (Some file) old new h = h.outputs

pub still_input : (own : Option ℕ) (file : ℕ) (old new : FilesShown) → ReadsOwn own old new
    → IsSome (old.inputs file) → IsSome (new.inputs file)
still_input None file old new h open_ = subst (λ (o : Option ReadLog). IsSome o)
    (sym (h.inputs file)) open_
still_input (Some own) file old new h open_ = ⊎_elim
    (λ e. subst (λ (i : ℕ). IsSome (new.inputs i)) (sym e) h.still)
    (λ ne. subst (λ (o : Option ReadLog). IsSome o) (sym (h.inputs file ne)) open_)
    (cases_eq file own)

pub sink_reads : (own : ℕ) (other : Option ℕ) (old new : FilesShown) → WritesOnly own old new
    → read_by new other ≡ read_by old other
sink_reads own None old new h = refl
sink_reads own (Some file) old new h = ap (λ (o : Option ReadLog). unwrap_or o nothing_read)
    (h.inputs file)

module _ {M : Type 0} where
  -- the numbers of a node's pipes, and how many ends it has
  pub record SameTables (a b : Actor M) : Type 0 where
    pub outs : out_pipes b ≡ out_pipes a
    pub ins : in_pipes b ≡ in_pipes a
    pub out_count : length (outs_of b) ≡ length (outs_of a)
    pub in_count : length (ins_of b) ≡ length (ins_of a)

  pub same_tables_refl : (a : Actor M) → SameTables a a
  same_tables_refl a = record { outs = refl; ins = refl; out_count = refl; in_count = refl }

  pub same_wired : (pipes : List Link) (a b : List (Actor M)) → length b ≡ length a
      → ((k : ℕ) → SameTables (actor_at a k) (actor_at b k)) → AreWired a pipes → AreWired b pipes
  same_wired pipes a b count same wired = record {
    placed = λ p l e.
        let w = wired.placed p l e in
        record {
          order = w.order;
          within = subst (λ (n : ℕ). l.reader < n) (sym count) w.within;
          out = ap (λ (xs : List ℕ). slice_get xs l.branch) (let t = same l.writer in t.outs)
              ∙ w.out;
          in_ = ap (λ (xs : List ℕ). slice_get xs l.input) (let t = same l.reader in t.ins) ∙ w.in_;
        };
    numbered = λ k.
        let t = same k in
        let n = wired.numbered k in
        record {
          outs = λ i p e. n.outs i p (ap (λ (xs : List ℕ). slice_get xs i) (sym t.outs) ∙ e);
          ins = λ i p e. n.ins i p (ap (λ (xs : List ℕ). slice_get xs i) (sym t.ins) ∙ e);
          out_count = t.out_count ∙ (n.out_count ∙ sym (ap (λ (xs : List ℕ). length xs) t.outs));
          in_count = t.in_count ∙ (n.in_count ∙ sym (ap (λ (xs : List ℕ). length xs) t.ins));
        };
  }

  -- ---- what a step of a node keeps of itself

  module _ (shows : M → Shown) (old new : FilesShown) (st : Step) where
    pub acts_tables : (a b : Actor M) → Acts shows a b old new st → SameTables a b
    acts_tables (an.Source x) (an.Source z) h =
        record {
          outs = let s = h.same in ap (λ (p : ℕ). p ∷ []) s.pipe;
          ins = refl;
          out_count =
              refl;
          in_count = refl;
        }
    acts_tables (an.Stage t) (an.Stage u) h =
        let w = h.0.writes in
        let r = h.0.reads in
        record {
          outs = w.pipes;
          ins = r.pipes;
          out_count = AllZip-long WritesOn t.outlet.ends u.outlet.ends w.ends;
          in_count = AllZip-long ReadsOn t.inlet.ends u.inlet.ends r.ends;
        }
    acts_tables (an.Sink y) (an.Sink z) h = record {
      outs = refl;
      ins = let s = h.same in
          ap (λ (p : ℕ). p ∷ []) s.pipe;
      out_count = refl;
      in_count = refl;
    }
    acts_tables a b h = absurd h

    pub acts_writes : (a b : Actor M) → Acts shows a b old new st → (k : ℕ)
        → WritesOn (out_end a k) (out_end b k)
    acts_writes (an.Source x) (an.Source z) h zero = h.goes_on
    acts_writes (an.Source x) (an.Source z) h (suc k) = writes_on_refl no_writing
    acts_writes (an.Stage t) (an.Stage u) h k =
        let w = h.0.writes in
        zip_get WritesOn no_writing (writes_on_refl no_writing) t.outlet.ends u.outlet.ends w.ends k
    acts_writes (an.Sink y) (an.Sink z) h k = writes_on_refl no_writing
    acts_writes a b h k = absurd h

    pub acts_reads : (a b : Actor M) → Acts shows a b old new st → (k : ℕ)
        → ReadsOn (in_end a k) (in_end b k)
    acts_reads (an.Source x) (an.Source z) h k = reads_on_refl no_reading
    acts_reads (an.Stage t) (an.Stage u) h k =
        let r = h.0.reads in
        zip_get ReadsOn no_reading (reads_on_refl no_reading) t.inlet.ends u.inlet.ends r.ends k
    acts_reads (an.Sink y) (an.Sink z) h zero = h.goes_on
    acts_reads (an.Sink y) (an.Sink z) h (suc k) = reads_on_refl no_reading
    acts_reads a b h k = absurd h

    pub acts_here : (a b : Actor M) → Acts shows a b old new st → IsHere b
    acts_here (an.Source x) (an.Source z) h = tt
    acts_here (an.Stage t) (an.Stage u) h = tt
    acts_here (an.Sink y) (an.Sink z) h = tt
    acts_here a b h = absurd h

    -- each file that is open stays open
    for_input : (a b : Actor M) → Acts shows a b old new st → (file : ℕ) → IsSome (old.inputs file)
        → IsSome (new.inputs file)
    for_input (an.Source x) (an.Source z) h file open_ = still_input x.file file old new h.own open_
    for_input (an.Stage t) (an.Stage u) h file open_ =
        subst (λ (f : FilesShown). IsSome (f.inputs file)) (sym h.1) open_
    for_input (an.Sink y) (an.Sink z) h file open_ =
        let own = h.own in
        subst (λ (o : Option ReadLog). IsSome o) (sym (own.inputs file)) open_
    for_input a b h file open_ = absurd h

    for_output : (a b : Actor M) → Acts shows a b old new st → (file : ℕ)
        → IsSome (old.outputs file) → IsSome (new.outputs file)
    for_output (an.Source x) (an.Source z) h file open_ =
        subst (λ (o : Option WriteLog). IsSome o)
        (sym (own_outputs x.file old new h.own file)) open_
    for_output (an.Stage t) (an.Stage u) h file open_ =
        subst (λ (f : FilesShown). IsSome (f.outputs file)) (sym h.1) open_
    for_output (an.Sink y) (an.Sink z) h file open_ =
        let own = h.own in
        ⊎_elim
        (λ e. subst (λ (i : ℕ). IsSome (new.outputs i)) (sym e) own.still)
        (λ ne. subst (λ (o : Option WriteLog). IsSome o) (sym (own.outputs file ne)) open_)
        (cases_eq file y.file)
    for_output a b h file open_ = absurd h

    for_source : (a b : Actor M) → Acts shows a b old new st → (o : Option ℕ)
        → ForSome o (λ file. IsSome (old.inputs file))
        → ForSome o (λ file. IsSome (new.inputs file))
    for_source a b h o f = λ file e. for_input a b h file (f file e)

    -- so the file of each node is still open
    pub acts_opened : (a b : Actor M) → Acts shows a b old new st → (c : Actor M) → HasFile old c
        → HasFile new c
    acts_opened a b h (an.Source x) f = for_source a b h x.file f
    acts_opened a b h (an.Stage t) f = tt
    acts_opened a b h (an.Sink y) f = for_output a b h y.file f
    acts_opened a b h an.Lent f = tt

    pub own_opened : (a b : Actor M) → Acts shows a b old new st → HasFile old a → HasFile new b
    own_opened (an.Source x) (an.Source z) h f =
        let s = h.same in
        subst (λ (o : Option ℕ). ForSome o (λ file. IsSome (new.inputs file))) (sym s.file)
        (for_source (an.Source x) (an.Source z) h x.file f)
    own_opened (an.Stage t) (an.Stage u) h f = tt
    own_opened (an.Sink y) (an.Sink z) h f =
        let s = h.same in
        let own = h.own in
        subst (λ (i : ℕ). IsSome (new.outputs i)) (sym s.file) own.still
    own_opened a b h f = absurd h

    -- ---- the cases

    pub own_fits : (a b : Actor M) → Acts shows a b old new st
        → (s : Setup) (k : ℕ) (node : Option GraphNode) → FitsAt shows s old k node a
        → FitsAt shows s new k node b
    own_fits (an.Source x) (an.Source z) h s k _ (FitsSource file fits block) =
        let same = h.same in
        FitsSource (ap (λ (o : Option ℕ). is_none o) same.file ∙ file) (h.fits fits) (same.block
        ∙ block)
    own_fits (an.Stage v) (an.Stage u) h s k _ (FitsStage {filter} {inputs} ins outs case block) =
        let w = h.0.writes in
        let r = h.0.reads in
        FitsStage (r.pipes ∙ ins) (w.pipes ∙ outs)
        (h.0.case (answer_of filter (told s inputs)) case) (w.block ∙ block)
    own_fits (an.Sink y) (an.Sink z) h s k _ (FitsSink fits unended) =
        FitsSink (h.fits fits) (h.unended unended)
    own_fits a b h s k _ f = absurd h

    -- what the files show of another node is as it was
    pub same_read : (a b c : Actor M) → Acts shows a b old new st
        → ((file : ℕ) → in_file a ≡ Some file → in_file c ≡ Some file → ⊥)
        → read_by new (in_file c) ≡ read_by old (in_file c)
    same_read (an.Source x) (an.Source z) c h apart =
        other_reads x.file (in_file c) old new h.own apart
    same_read (an.Stage t) (an.Stage u) c h apart =
        ap (λ (f : FilesShown). read_by f (in_file c)) h.1
    same_read (an.Sink y) (an.Sink z) c h apart = sink_reads y.file (in_file c) old new h.own
    same_read a b c h apart = absurd h

    pub same_written : (a b c : Actor M) → Acts shows a b old new st
        → ((file : ℕ) → out_file a ≡ Some file → out_file c ≡ Some file → ⊥) → (file : ℕ)
        → out_file c ≡ Some file → log_of new file ≡ log_of old file
    same_written (an.Source x) (an.Source z) c h apart file e =
        ap (λ (o : Option WriteLog). unwrap_or o nothing_written) (own_outputs x.file old new h.own file)
    same_written (an.Stage t) (an.Stage u) c h apart file e =
        ap (λ (f : FilesShown). log_of f file) h.1
    same_written (an.Sink y) (an.Sink z) c h apart file e =
        let own = h.own in
        ap (λ (o : Option WriteLog). unwrap_or o nothing_written)
        (own.outputs file (λ same. apart file (ap (λ (i : ℕ). Some i) (sym same)) e))
    same_written a b c h apart file e = absurd h

    -- so another node still fits
    pub other_fits : (a b c : Actor M) → Acts shows a b old new st
        → ((file : ℕ) → in_file a ≡ Some file → in_file c ≡ Some file → ⊥)
        → ((file : ℕ) → out_file a ≡ Some file → out_file c ≡ Some file → ⊥)
        → (s : Setup) (k : ℕ) (node : Option GraphNode) → FitsAt shows s old k node c
        → FitsAt shows s new k node c
    other_fits a b _ h ins outs s k _ (FitsSource {x = x} file fits block) =
        FitsSource file (subst (λ (log : ReadLog). SourceFits log x)
        (sym (same_read a b (an.Source x) h ins)) fits) block
    other_fits a b _ h ins outs s k _ (FitsStage i o case block) = FitsStage i o case block
    other_fits a b _ h ins outs s k _ (FitsSink {y} fits unended) =
        FitsSink (subst (λ (log : WriteLog). SinkFits log y)
        (sym (same_written a b (an.Sink y) h outs y.file refl)) fits) unended
