-- The nodes of a plan are at the places that are their numbers, and the writer of each pipe comes
-- before its reader.
use Rattle.std.proofs.Common.{◌≡◌, ℕ, zero, suc, ◌+◌, ◌<◌, ◌≤◌, ◌==◌, ◌&&◌, Bool, true, false, not}
use Rattle.std.proofs.Common.{cond, List, [], ◌∷◌, ◌++◌, length, map, get_or, refl, sym, ap, ◌∙◌}
use Rattle.std.proofs.Common.{⊎_elim, arith}
use Rattle.std.specs.List.{Contains, count_by, filter, position_or_len}
use Rattle.std.proofs.lemmas.Bool.{eq-eqb, eqb-true}
use Rattle.std.proofs.lemmas.List.{length-append, length-map, get_or-map, get_or_append_left}
use Rattle.std.proofs.lemmas.List.{get_or-append-add}
use Rattle.std.proofs.lemmas.List.Sums.{sum_by-append, sum_by-le-sum_by, passes_at_first}
use Rattle.planner.specs.declared.place.End.{End}
use Rattle.planner.specs.declared.plan.NodeName.{NodeName}
use Rattle.planner.specs.declared.plan.NodeName.TheVariants.{SourceOf, StageAt, SinkOf}
use Rattle.planner.specs.declared.plan.Pipe.{Pipe}
use Rattle.planner.specs.Ends.{meets, is_fed, leaves, unfed}
use Rattle.planner.specs.Tables.{is_same_node, source_of, sink_of, names_of, number_of}
use Rattle.commands.proofs.CountedWords.{count_map, count_filter, count_none}
use Rattle.planner.proofs.lemmas.PipeLaws.{is_end}
use Rattle.planner.proofs.lemmas.SortLaws.{position_at_most, position_of_one, same_is, same_self}
use Rattle.planner.proofs.lemmas.SortLaws.{FromSource, ToInput, ToSink, IsPipeOf}

-- what is known of the order: no stage is in it twice, those of inputs and branches are, and a
-- branch's comes before that of the input that it meets
pub record AreOrdered (ins outs : List End) (order : List ℕ) : Type 0 where
  pub once : (s : ℕ) → count_by (λ t. t == s) order ≤ 1
  pub inputs : (x : End) → Contains ins x → Contains order x.stage
  pub branches : (o : End) → Contains outs o → Contains order o.stage
  pub before : (o : End) (x : End) → Contains outs o → Contains ins x → meets o x ≡ true
      → position_or_len (λ t. t == o.stage) order < position_or_len (λ t. t == x.stage) order

-- a name in place of one that is not there
abbrev pub none : NodeName
none = StageAt 0

-- the node with a number
pub named_at : (names : List NodeName) (a : NodeName) (k : ℕ) → k < length names
    → number_of names a ≡ k → get_or names k none ≡ a
named_at names a k l e =
    let f = λ (other : NodeName). is_same_node other a in
    ap (λ i. get_or names i none) (sym e)
    ∙ same_is (get_or names (number_of names a) none) a
    (passes_at_first f names none (omega (arith, e, l)))

-- what passes is kept
pub in_filter : {A : Type 0} (q : A → Bool) (xs : List A) (x : A) → Contains xs x → q x ≡ true
    → Contains (filter q xs) x
in_filter q [] x (k, l, e) h = absurd (omega arith)
in_filter {A} q (y ∷ xs) x (zero, l, e) h = go (q y) (ap q e ∙ h)
  where
    go : (b : Bool) → b ≡ true → Contains (cond b (y ∷ filter q xs) (filter q xs)) x
    go true f = (0, omega arith, e)
    go false f = absurd (cc f)
in_filter {A} q (y ∷ xs) x (suc k, l, e) h = go (q y) (in_filter q xs x (k, omega arith, e) h)
  where
    go : (b : Bool) → Contains (filter q xs) x → Contains (cond b (y ∷ filter q xs) (filter q xs)) x
    go true (j, m, f) = (suc j, omega arith, f)
    go false c = c

-- what is known of the inputs and the branches: none is there twice
pub record AreKeyed (ins outs : List End) : Type 0 where
  pub inputs : (s i : ℕ) → count_by (is_end s i) ins ≤ 1
  pub branches : (s b : ℕ) → count_by (is_end s b) outs ≤ 1

module _ (ins outs : List End) (order : List ℕ) (keyed : AreKeyed ins outs)
    (ordered : AreOrdered ins outs order) where
  less_and : {A : Type 0} (u k : A → Bool) (xs : List A)
      → count_by (λ x. u x && k x) xs ≤ count_by k xs
  less_and u k xs = sum_by-le-sum_by (λ y. cond (u y && k y) 1 0) (λ y. cond (k y) 1 0) xs
      (λ y. less (u y) (k y))
    where
      less : (a b : Bool) → ◌≤◌ (cond (a && b) 1 0) (cond b 1 0)
      less true b = omega arith
      less false b = omega arith

  -- a count over the names
  count_names : (f : NodeName → Bool) → count_by f (names_of ins outs order)
      ≡ count_by (λ x. f (source_of x)) (unfed ins outs) + count_by
      (λ t. f (StageAt t)) order + count_by (λ o. f (sink_of o)) (filter leaves outs)
  count_names f =
      let us = map source_of (unfed ins outs) in
      let ts = map StageAt order in
      let os = map sink_of (filter leaves outs) in
      let a = sum_by-append (λ y. cond (f y) 1 0) (us ++ ts) os in
      let b = sum_by-append (λ y. cond (f y) 1 0) us ts in
      let c = count_map f source_of (unfed ins outs) in
      let d = count_map f StageAt order in
      let e = count_map f sink_of (filter leaves outs) in
      omega (arith, a, b, c, d, e)

  -- no name is there twice
  names_apart : (name : NodeName)
      → count_by (λ other. is_same_node other name) (names_of ins outs order) ≤ 1
  names_apart (SourceOf s i) =
      let a = count_names (λ other. is_same_node other (SourceOf s i)) in
      let b = count_filter (is_end s i) (λ x. not (is_fed outs x)) ins in
      let c = less_and (λ x. not (is_fed outs x)) (is_end s i) ins in
      let d = keyed.inputs s i in
      let e = count_none (λ (t : ℕ). false) order (λ t. refl) in
      let f = count_none (λ (o : End). false) (filter leaves outs) (λ t. refl) in
      omega (arith, a, b, c, d, e, f)
  names_apart (StageAt s) =
      let a = count_names (λ other. is_same_node other (StageAt s)) in
      let b = count_none (λ (x : End). false) (unfed ins outs) (λ t. refl) in
      let c = ordered.once s in
      let f = count_none (λ (o : End). false) (filter leaves outs) (λ t. refl) in
      omega (arith, a, b, c, f)
  names_apart (SinkOf s i) =
      let a = count_names (λ other. is_same_node other (SinkOf s i)) in
      let b = count_filter (is_end s i) leaves outs in
      let c = less_and leaves (is_end s i) outs in
      let d = keyed.branches s i in
      let e = count_none (λ (t : ℕ). false) order (λ t. refl) in
      let f = count_none (λ (x : End). false) (unfed ins outs) (λ t. refl) in
      omega (arith, a, b, c, d, e, f)

  -- the number of the name at a place is that place
  pub number_at : (k : ℕ) (name : NodeName) → k < length (names_of ins outs order)
      → get_or (names_of ins outs order) k none ≡ name
      → number_of (names_of ins outs order) name ≡ k
  number_at k name l e = position_of_one (λ other. is_same_node other name)
      (names_of ins outs order) (names_apart name) k none l (ap (λ other. is_same_node other name) e
      ∙ same_self name)

  -- how many names there are
  pub long : length (names_of ins outs order) ≡ length (unfed ins outs) + length order + length
      (filter leaves outs)
  long =
      let a = length-append (map source_of (unfed ins outs) ++ map StageAt order)
      (map sink_of (filter leaves outs)) in
      let b = length-append (map source_of (unfed ins outs)) (map StageAt order) in
      let c = length-map (unfed ins outs) source_of in
      let d = length-map order StageAt in
      let e = length-map (filter leaves outs) sink_of in
      omega (arith, a, b, c, d, e)

  -- the names at the places of the stages, of the sources and of the sinks
  pub at_stage : (p : ℕ) → p < length order
      → get_or (names_of ins outs order) (length (unfed ins outs) + p) none
      ≡ StageAt (get_or order p 0)
  at_stage p l =
      let us = map source_of (unfed ins outs) in
      let ts = map StageAt order in
      let c = length-map (unfed ins outs) source_of in
      let d = length-map order StageAt in
      let b = length-append us ts in
      get_or_append_left (us ++ ts) (map sink_of (filter leaves outs)) none
      (length (unfed ins outs) + p) (omega (arith, b, c, d))
      ∙ (ap (λ n. get_or (us ++ ts) (n + p) none) (sym c)
      ∙ (get_or-append-add us ts p none ∙ get_or-map StageAt order p 0 none l))

  pub at_source : (k : ℕ) (d : End) → k < length (unfed ins outs)
      → get_or (names_of ins outs order) k none ≡ source_of (get_or (unfed ins outs) k d)
  at_source k d l =
      let us = map source_of (unfed ins outs) in
      let ts = map StageAt order in
      let c = length-map (unfed ins outs) source_of in
      let b = length-append us ts in
      get_or_append_left (us ++ ts) (map sink_of (filter leaves outs)) none k (omega (arith, b, c))
      ∙ (get_or_append_left us ts none k (omega (arith, c))
      ∙ get_or-map source_of (unfed ins outs) k d none l)

  pub at_sink : (k : ℕ) (d : End) → k < length (filter leaves outs)
      → get_or (names_of ins outs order) (length (unfed ins outs) + length order + k) none
      ≡ sink_of (get_or (filter leaves outs) k d)
  at_sink k d l =
      let us = map source_of (unfed ins outs) in
      let ts = map StageAt order in
      let c = length-map (unfed ins outs) source_of in
      let e = length-map order StageAt in
      let b = length-append us ts in
      let n : length (us ++ ts) ≡ length (unfed ins outs) + length order = omega (arith, b, c, e) in
      ap (λ j. get_or (names_of ins outs order) (j + k) none) (sym n)
      ∙ (get_or-append-add (us ++ ts) (map sink_of (filter leaves outs)) k none
      ∙ get_or-map sink_of (filter leaves outs) k d none l)

  -- ---- numbers

  -- the number of a stage
  pub number_stage : (s : ℕ) → Contains order s
      → number_of (names_of ins outs order) (StageAt s)
      ≡ length (unfed ins outs) + position_or_len (λ t. t == s) order
  number_stage s (k, l, e) =
      let f = λ (t : ℕ). t == s in
      let p = position_or_len f order in
      let w : p ≤ k = position_at_most f order k s (eq-eqb (get_or order k s) s e) in
      let lt : p < length order = omega arith in
      let h : get_or order p 0 ≡ s = eqb-true (get_or order p 0) s (passes_at_first f order 0 lt) in
      number_at (length (unfed ins outs) + p) (StageAt s) (omega (arith, long)) (at_stage p lt
      ∙ ap StageAt h)

  -- a stage has a place in the order
  pub stage_within : (s : ℕ) → Contains order s → position_or_len (λ t. t == s) order < length order
  stage_within s (k, l, e) =
      let w = position_at_most (λ t. t == s) order k s (eq-eqb (get_or order k s) s e) in
      omega arith

  pub number_source : (x : End) → Contains ins x → is_fed outs x ≡ false
      → number_of (names_of ins outs order) (source_of x) < length (unfed ins outs)
  number_source x c e =
      let (k, l, f) = in_filter (λ i. not (is_fed outs i)) ins x c (ap not e) in
      let n = number_at k (source_of x) (omega (arith, long)) (at_source k x l ∙ ap source_of f) in
      omega (arith, n)

  pub number_sink : (o : End) → Contains outs o → leaves o ≡ true
      → (k : ℕ) × (number_of (names_of ins outs order) (sink_of o)
      ≡ length (unfed ins outs) + length order + k) × (k < length (filter leaves outs))
  number_sink o c e =
      let (k, l, f) = in_filter leaves outs o c e in (
        k,
        number_at (length (unfed ins outs) + length order + k) (sink_of o) (omega (arith, long))
            (at_sink k o l ∙ ap sink_of f),
        l,
      )

  -- a pipe's writer comes before its reader
  pub in_order : (p : Pipe) → IsPipeOf ins outs p
      → (number_of (names_of ins outs order) p.writer < number_of
      (names_of ins outs order) p.reader)
      × (number_of (names_of ins outs order) p.reader < length (names_of ins outs order))
  in_order p kind = ⊎_elim
      (λ (f : FromSource ins outs p).
      let n = λ (q : NodeName). number_of (names_of ins outs order) q in
      let a = number_source f.x f.x_in f.unfed in
      let c = ordered.inputs f.x f.x_in in
      let b = number_stage f.x.stage c in
      let w = stage_within f.x.stage c in
      let e : n p.writer ≡ n (source_of f.x) = ap (λ (q : Pipe). n q.writer) f.is in
      let g : n p.reader ≡ n (StageAt f.x.stage) = ap (λ (q : Pipe). n q.reader) f.is in
      (omega (arith, a, b, e, g), omega (arith, b, g, w, long)))
      (λ rest. ⊎_elim
      (λ (f : ToInput ins outs p).
      let n = λ (q : NodeName). number_of (names_of ins outs order) q in
      let c = ordered.inputs f.x f.x_in in
      let d = ordered.branches f.o f.o_in in
      let a = number_stage f.o.stage d in
      let b = number_stage f.x.stage c in
      let w = stage_within f.x.stage c in
      let t = ordered.before f.o f.x f.o_in f.x_in f.meets in
      let e : n p.writer ≡ n (StageAt f.o.stage) = ap (λ (q : Pipe). n q.writer) f.is in
      let g : n p.reader ≡ n (StageAt f.x.stage) = ap (λ (q : Pipe). n q.reader) f.is in
      (omega (arith, a, b, e, g, t), omega (arith, b, g, w, long)))
      (λ (f : ToSink ins outs p).
      let n = λ (q : NodeName). number_of (names_of ins outs order) q in
      let d = ordered.branches f.o f.o_in in
      let a = number_stage f.o.stage d in
      let w = stage_within f.o.stage d in
      let (k, b, l) = number_sink f.o f.o_in f.leaves in
      let e : n p.writer ≡ n (StageAt f.o.stage) = ap (λ (q : Pipe). n q.writer) f.is in
      let g : n p.reader ≡ n (sink_of f.o) = ap (λ (q : Pipe). n q.reader) f.is in
      (omega (arith, a, b, e, g, w), omega (arith, b, g, l, long))) rest) kind
