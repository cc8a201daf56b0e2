-- The answers to the openings of a plan's sources and sinks: which file each has, that nothing was
-- read from it or written to it, and that no two have one.
use Rattle.std.proofs.Common.{◌≡◌, ℕ, zero, suc, ◌<◌, Bool, true, false, List, [], ◌∷◌, length, map}
use Rattle.std.proofs.Common.{Option, Some, None, refl, sym, ap, ◌∙◌, subst, if◌then◌else◌, arith}
use Rattle.std.specs.Prelude.{slice_get, option_map, IsSome}
use Rattle.std.proofs.lemmas.Bool.{eqb-true, eq-eqb}
use Rattle.std.proofs.lemmas.List.{length-map}
use Rattle.std.proofs.lemmas.Option.{none-some, same_Some, slice_get-map, slice_get_within}
use Rattle.std.proofs.lemmas.Option.{slice_get-get_or}
use Rattle.collector.specs.Files.{FilesShown, nothing_read, nothing_written}
use Rattle.run_types.specs.declared.names.InName.{InName}
use Rattle.run_types.specs.declared.names.OutName.{OutName}
use Rattle.planner.specs.declared.plan.InOpening.{InOpening}
use Rattle.planner.specs.declared.plan.OutOpening.{OutOpening}
use Rattle.planner.specs.declared.plan.Node.TheVariants as node
use Rattle.planner.specs.Laws.{HasOwnOpenings}
use Rattle.planner.specs.Planned.{Planned}
use Rattle.openings.specs.Answers.{OpenedFiles, answer_at, own_file, is_of, first_answer}
use Rattle.openings.specs.Answers.{input_nodes, output_nodes}
use Rattle.openings.specs.Openings.{OpensAll}

-- ---- the first answer to a node

-- at this place is an opening of the node, whose answer is the one that counts
record IsFoundAt (nodes answers : List (Option ℕ)) (k : ℕ) (found : Option ℕ) : Type 0 where
  pub place : ℕ
  pub is_its : slice_get nodes place ≡ Some (Some k)
  pub found_is : found ≡ answer_at answers place

-- an opening of this node has it as its node
own_is : (own : Option ℕ) (k : ℕ) → is_of own k ≡ true → own ≡ Some k
own_is None k e = absurd (cc)
own_is (Some j) k e = ap Some (eqb-true j k e)

-- and the other way round
is_own : (own : Option ℕ) (k : ℕ) → own ≡ Some k → is_of own k ≡ true
is_own own k e = ap (λ o. is_of o k) e ∙ eq-eqb k k refl

-- the first answer, by whether the first opening is that of the node
first_here : (own answer : Option ℕ) (nodes answers : List (Option ℕ)) (k : ℕ) (other : Option ℕ)
    (b : Bool) → is_of own k ≡ b → first_answer (own ∷ nodes) (answer ∷ answers) k other
    ≡ (if b then answer else first_answer nodes answers k other)
first_here own answer nodes answers k other b e =
    ap (λ (c : Bool). if c then answer else first_answer nodes answers k other) e

-- if some opening is that of the node, the first of them is found: at the first place, or after it
found_at : (own answer : Option ℕ) (nodes answers : List (Option ℕ)) (k : ℕ) (other : Option ℕ)
    (b : Bool) → is_of own k ≡ b → (i : ℕ) → slice_get (own ∷ nodes) i ≡ Some (Some k)
    → ((j : ℕ) → slice_get nodes j ≡ Some (Some k)
    → IsFoundAt nodes answers k (first_answer nodes answers k other))
    → IsFoundAt (own ∷ nodes) (answer ∷ answers) k
    (first_answer (own ∷ nodes) (answer ∷ answers) k other)
found_at own answer nodes answers k other true its i e more =
    record {
      place = 0;
      is_its = ap Some (own_is own k its);
      found_is =
          first_here own answer nodes answers k other true its;
    }
found_at own answer nodes answers k other false its zero e more =
    absurd (let clash : false ≡ true = sym its ∙ is_own own k (same_Some own (Some k) e) in cc)
found_at own answer nodes answers k other false its (suc i) e more =
    let next = more i e in
    record {
      place = suc next.place;
      is_its = next.is_its;
      found_is =
          first_here own answer nodes answers k other false its ∙ next.found_is;
    }

-- if some opening is that of the node, the answer that counts is that of such an opening
first_found : (nodes answers : List (Option ℕ)) (k i : ℕ) (other : Option ℕ)
    → length answers ≡ length nodes → slice_get nodes i ≡ Some (Some k)
    → IsFoundAt nodes answers k (first_answer nodes answers k other)
first_found [] answers k i other same e = absurd (none-some _ e)
first_found (own ∷ nodes) [] k i other same e = absurd (let f : ⊥ = omega (arith, same) in f)
first_found (own ∷ nodes) (answer ∷ answers) k i other same e =
    found_at own answer nodes answers k other (is_of own k) refl i e
    (λ j f. first_found nodes answers k j other (omega (arith, same)) f)

-- if the first opening and those after it are of other nodes, there is no answer to this one
none_at : (own answer : Option ℕ) (nodes answers : List (Option ℕ)) (k : ℕ) (other : Option ℕ)
    (b : Bool) → is_of own k ≡ b → (own ≡ Some k → ⊥) → first_answer nodes answers k other ≡ other
    → first_answer (own ∷ nodes) (answer ∷ answers) k other ≡ other
none_at own answer nodes answers k other true its none rest = absurd (none (own_is own k its))
none_at own answer nodes answers k other false its none rest =
    first_here own answer nodes answers k other false its ∙ rest

-- if no opening is that of the node, there is no answer to it
first_none : (nodes answers : List (Option ℕ)) (k : ℕ) (other : Option ℕ)
    → ((i : ℕ) → slice_get nodes i ≡ Some (Some k) → ⊥) → first_answer nodes answers k other ≡ other
first_none [] answers k other none = refl
first_none (own ∷ nodes) [] k other none = refl
first_none (own ∷ nodes) (answer ∷ answers) k other none =
    none_at own answer nodes answers k other (is_of own k) refl (λ e. none 0 (ap Some e))
    (first_none nodes answers k other (λ i e. none (suc i) e))

-- ---- openings by their nodes

-- an item of a list of results is the result of an item
pub mapped : {A B : Type 0} (f : A → B) (xs : List A) (i : ℕ) (y : B)
    → slice_get (map f xs) i ≡ Some y → (x : A) × (slice_get xs i ≡ Some x) × (f x ≡ y)
mapped f [] i y e = absurd (none-some y e)
mapped f (x ∷ xs) zero y e = (x, refl, same_Some (f x) y e)
mapped f (x ∷ xs) (suc i) y e = mapped f xs i y e

-- and the other way round
to_map : {A B : Type 0} (f : A → B) (xs : List A) (i : ℕ) (x : A) (y : B) → slice_get xs i ≡ Some x
    → f x ≡ y → slice_get (map f xs) i ≡ Some y
to_map f xs i x y e same = slice_get-map f xs i ∙ (ap (option_map f) e ∙ ap Some same)

-- if each answer is a file, the answer at a place is the file there
answer_some : (files : List ℕ) (i : ℕ) → answer_at (map Some files) i ≡ slice_get files i
answer_some [] i = refl
answer_some (file ∷ files) zero = refl
answer_some (file ∷ files) (suc i) = answer_some files i

-- there is a file at each place within the list
pub some_at : (files : List ℕ) (i : ℕ) → i < length files
    → (file : ℕ) × (slice_get files i ≡ Some file)
some_at files i lt = (_, slice_get-get_or files i 0 lt)

module _ (plan : Planned) (o : OpenedFiles) (old new : FilesShown) (own : HasOwnOpenings plan)
    (all : OpensAll plan o old new) where
  -- ---- sources

  -- at this place is the opening of a source, and its answer is the source's file
  pub record IsReadAt (k : ℕ) : Type 0 where
    pub place : ℕ
    pub opening : InOpening
    pub there : slice_get plan.inputs place ≡ Some opening
    pub for_node : opening.node ≡ Some k
    pub file_is : own_file o k ≡ answer_at o.inputs place

  -- each source that reads something has such an opening
  pub read_at : (k : ℕ) (name : InName) → slice_get plan.nodes k ≡ Some (node.Source (Some name))
      → IsReadAt k
  read_at k name e =
      let mine = own.inputs k name e in
      let found = first_found (input_nodes plan.inputs) o.inputs k mine.place
      (first_answer (output_nodes plan.outputs) (map Some o.outputs) k None) (all.inputs
      ∙ sym (length-map plan.inputs (λ (p : InOpening). p.node)))
      (to_map (λ (p : InOpening). p.node) plan.inputs mine.place mine.opening
      (Some k) mine.there mine.for_node) in
      let m = mapped (λ (p : InOpening). p.node) plan.inputs found.place (Some k) found.is_its in
      record {
        place = found.place;
        opening = m.0;
        there = m.1;
        for_node = m.2;
        file_is =
            all.own k (slice_get_within plan.nodes k (node.Source (Some name)) e) ∙ found.found_is;
      }

  -- nothing was read of a source's file
  pub source_fresh : (k file : ℕ) (name : InName)
      → slice_get plan.nodes k ≡ Some (node.Source (Some name)) → own_file o k ≡ Some file
      → new.inputs file ≡ Some nothing_read
  source_fresh k file name e is =
      let r = read_at k name e in
      let opens = all.opens in
      let logs = opens.input_logs in
      logs.log r.place file (sym r.file_is ∙ is)

  -- no two sources have one
  pub sources_apart : (j k file : ℕ) (a b : InName)
      → slice_get plan.nodes j ≡ Some (node.Source (Some a))
      → slice_get plan.nodes k ≡ Some (node.Source (Some b)) → own_file o j ≡ Some file
      → own_file o k ≡ Some file → j ≡ k
  sources_apart j k file a b e f is also =
      let r = read_at j a e in
      let t = read_at k b f in
      let opens = all.opens in
      let logs = opens.input_logs in
      let one : r.place ≡ t.place = logs.apart r.place t.place file (sym r.file_is
      ∙ is) (sym t.file_is ∙ also) in
      let same : r.opening ≡ t.opening = same_Some r.opening t.opening (sym r.there
      ∙ (ap (λ (i : ℕ). slice_get plan.inputs i) one ∙ t.there)) in
      same_Some j k (sym r.for_node ∙ (ap (λ (p : InOpening). p.node) same ∙ t.for_node))

  -- ---- sinks

  -- at this place is the opening of a sink, and its answer is the sink's file
  pub record IsWrittenAt (k : ℕ) : Type 0 where
    pub place : ℕ
    pub opening : OutOpening
    pub there : slice_get plan.outputs place ≡ Some opening
    pub for_node : opening.node ≡ Some k
    pub file_is : own_file o k ≡ slice_get o.outputs place

  -- no input is opened for a sink
  no_input : (k : ℕ) (name : OutName) → slice_get plan.nodes k ≡ Some (node.Sink name) → (i : ℕ)
      → slice_get (input_nodes plan.inputs) i ≡ Some (Some k) → ⊥
  no_input k name e i h =
      let m = mapped (λ (p : InOpening). p.node) plan.inputs i (Some k) h in
      let source = own.read i k m.0 m.1 m.2 in
      let clash : node.Source (Some m.0.name) ≡ node.Sink name =
      same_Some (node.Source (Some m.0.name)) (node.Sink name) (sym source ∙ e) in
      cc clash

  -- each sink has such an opening
  pub written_at : (k : ℕ) (name : OutName) → slice_get plan.nodes k ≡ Some (node.Sink name)
      → IsWrittenAt k
  written_at k name e =
      let mine = own.outputs k name e in
      let counted : length (map Some o.outputs) ≡ length (output_nodes plan.outputs) =
      length-map o.outputs Some
      ∙ (all.outputs ∙ sym (length-map plan.outputs (λ (p : OutOpening). p.node))) in
      let found = first_found (output_nodes plan.outputs)
      (map Some o.outputs) k mine.place None counted
      (to_map (λ (p : OutOpening). p.node) plan.outputs mine.place mine.opening
      (Some k) mine.there mine.for_node) in
      let m = mapped (λ (p : OutOpening). p.node) plan.outputs found.place (Some k) found.is_its in
      record {
        place = found.place;
        opening = m.0;
        there = m.1;
        for_node = m.2;
        file_is = all.own k (slice_get_within plan.nodes k (node.Sink name) e)
            ∙ (first_none (input_nodes plan.inputs) o.inputs k
            (first_answer (output_nodes plan.outputs) (map Some o.outputs) k None)
            (no_input k name e)
            ∙ (found.found_is ∙ answer_some o.outputs found.place));
      }

  -- a sink's file is there
  pub sink_there : (k : ℕ) (name : OutName) → slice_get plan.nodes k ≡ Some (node.Sink name)
      → IsSome (own_file o k)
  sink_there k name e =
      let w = written_at k name e in
      let f = some_at o.outputs w.place (let l =
      slice_get_within plan.outputs w.place w.opening w.there in let c = all.outputs in
      omega (arith, l, c)) in
      subst (λ (x : Option ℕ). IsSome x) (sym (w.file_is ∙ f.1)) refl

  -- nothing was written to it
  pub sink_fresh : (k file : ℕ) (name : OutName) → slice_get plan.nodes k ≡ Some (node.Sink name)
      → own_file o k ≡ Some file → new.outputs file ≡ Some nothing_written
  sink_fresh k file name e is =
      let w = written_at k name e in
      let opens = all.opens in
      let logs = opens.output_logs in
      logs.log w.place file (sym w.file_is ∙ is)

  -- no two sinks have one
  pub sinks_apart : (j k file : ℕ) (a b : OutName) → slice_get plan.nodes j ≡ Some (node.Sink a)
      → slice_get plan.nodes k ≡ Some (node.Sink b) → own_file o j ≡ Some file
      → own_file o k ≡ Some file → j ≡ k
  sinks_apart j k file a b e f is also =
      let r = written_at j a e in
      let t = written_at k b f in
      let opens = all.opens in
      let logs = opens.output_logs in
      let one : r.place ≡ t.place = logs.apart r.place t.place file (sym r.file_is
      ∙ is) (sym t.file_is ∙ also) in
      let same : r.opening ≡ t.opening = same_Some r.opening t.opening (sym r.there
      ∙ (ap (λ (i : ℕ). slice_get plan.outputs i) one ∙ t.there)) in
      same_Some j k (sym r.for_node ∙ (ap (λ (p : OutOpening). p.node) same ∙ t.for_node))
