-- Each input and each sink has just one pipe, each source writes just one, and each branch at most
-- one.
use Rattle.std.proofs.Common.{◌≡◌, ℕ, ◌+◌, ◌<◌, ◌≤◌, ◌==◌, ◌||◌, ◌&&◌, Bool, true, false, not, cond}
use Rattle.std.proofs.Common.{List, [], ◌∷◌, length, map, get_or, refl, sym, ap, ◌∙◌, arith}
use Rattle.std.specs.List.{list_any, count_by, sum_by, filter, flat_map}
use Rattle.std.proofs.lemmas.Bool.{and_from, eq-eqb}
use Rattle.std.proofs.lemmas.List.Sums.{sum_by-cons, sum_by-append, sum_by-le-sum_by}
use Rattle.std.proofs.lemmas.List.Sums.{count_by-le-length, length-filter}
use Rattle.planner.specs.declared.plan.NodeName.TheVariants.{SourceOf, StageAt, SinkOf}
use Rattle.planner.specs.declared.plan.Pipe.{Pipe}
use Rattle.planner.specs.declared.place.Place.{Place}
use Rattle.planner.specs.declared.place.Place.TheVariants as place
use Rattle.planner.specs.declared.place.End.{End}
use Rattle.planner.specs.Ends.{meets, meets_at, is_fed, is_outside, leaves, unfed}
use Rattle.planner.specs.Tables.{is_same_node, pipe_to, pipe_to_sink, pipes_of_branch, branches_at}
use Rattle.planner.specs.Tables.{pipe_of_source, pipes_of_stage, pipes_of, is_read_by}
use Rattle.planner.specs.Tables.{is_written_by}
use Rattle.commands.proofs.CountedWords.{count_map, sum_agree, count_agree, sum_none, count_none}
use Rattle.commands.proofs.CountedWords.{count_filter, count_flat_map, sum_add, regroup}
use Rattle.commands.proofs.CountedWords.{count_one_and}

-- whether it is the end with these numbers
abbrev pub is_end : ℕ → ℕ → End → Bool
is_end s i x = (x.stage == s) && (x.number == i)

-- what is known of the inputs, the branches and the order: each is there once; an input meets at
-- most one branch, and a branch at most one input
pub record AreApart (ins outs : List End) (order : List ℕ) : Type 0 where
  pub inputs : (a : ℕ) (d : End) → a < length ins
      → count_by (is_end (get_or ins a d).stage (get_or ins a d).number) ins ≡ 1
  pub branches : (a : ℕ) (d : End) → a < length outs
      → count_by (is_end (get_or outs a d).stage (get_or outs a d).number) outs ≡ 1
  pub stages : (a : ℕ) (d : End) → a < length outs
      → count_by (λ t. (get_or outs a d).stage == t) order ≡ 1
  pub fed : (x : End) → count_by (λ o. meets o x) outs ≤ 1
  pub read : (o : End) → count_by (meets o) ins ≤ 1

-- an end has its own numbers
pub own_end : (e : End) → is_end e.stage e.number e ≡ true
own_end e = and_from (e.stage == e.stage) (e.number == e.number) (eq-eqb e.stage e.stage refl)
    (eq-eqb e.number e.number refl)

and_false : (b : Bool) → (b && false) ≡ false
and_false true = refl
and_false false = refl

-- what goes outside meets nothing, and what meets another is met by it
pub outside_meets_none : (p q : Place) → is_outside p ≡ true → meets_at p q ≡ false
outside_meets_none (place.Through c) q e = absurd (cc e)
outside_meets_none _ q e = refl

-- none of a list passes, or some do
any_counted : {A : Type 0} (p : A → Bool) (xs : List A) → count_by p xs ≤ 1
    → cond (not (list_any p xs)) 1 0 + count_by p xs ≡ 1
any_counted p [] h = refl
any_counted {A} p (x ∷ xs) h = go (p x) refl (any_counted p xs)
  where
    go : (b : Bool) → p x ≡ b
        → (count_by p xs ≤ 1 → cond (not (list_any p xs)) 1 0 + count_by p xs ≡ 1)
        → cond (not (p x || list_any p xs)) 1 0 + count_by p (x ∷ xs) ≡ 1
    go true e ih =
        let a = sum_by-cons (λ y. cond (p y) 1 0) x xs in
        let c : ◌≡◌ {A = ℕ} (cond (p x) 1 0) 1 = ap (λ t. cond t 1 0) e in
        let d : ◌≡◌ {A = ℕ} (cond (not (p x || list_any p xs)) 1 0) 0 =
        ap (λ t. cond (not (t || list_any p xs)) 1 0) e in
        omega (arith, a, c, d, h)
    go false e ih =
        let a = sum_by-cons (λ y. cond (p y) 1 0) x xs in
        let c : ◌≡◌ {A = ℕ} (cond (p x) 1 0) 0 = ap (λ t. cond t 1 0) e in
        let d : ◌≡◌ {A = ℕ} (cond (not (p x || list_any p xs)) 1 0)
        (cond (not (list_any p xs)) 1 0) = ap (λ t. cond (not (t || list_any p xs)) 1 0) e in
        let r = ih (omega (arith, a, c, h)) in
        omega (arith, a, c, d, r)

module _ (ins outs : List End) (order : List ℕ) (apart : AreApart ins outs order) where
  -- a count over the pipes: those of the sources, and those of each branch
  pub counted : (f : Pipe → Bool) → count_by f (pipes_of ins outs order)
      ≡ count_by (λ x. not (is_fed outs x) && f (pipe_of_source x)) ins + sum_by
      (λ o. count_by f (pipes_of_branch ins o)) outs
  counted f =
      let a = sum_by-append (λ y. cond (f y) 1 0) (map pipe_of_source (unfed ins outs))
      (flat_map (pipes_of_stage ins outs) order) in
      let b = count_map f pipe_of_source (unfed ins outs) in
      let c = count_filter (λ x. f (pipe_of_source x)) (λ x. not (is_fed outs x)) ins in
      let d = count_flat_map f (pipes_of_stage ins outs) order in
      let e = sum_agree (λ s. count_by f (pipes_of_stage ins outs s))
      (λ s. sum_by (λ o. count_by f (pipes_of_branch ins o)) (branches_at outs s)) order
      (λ s. count_flat_map f (pipes_of_branch ins) (branches_at outs s)) in
      let g = regroup (λ (o : End). o.stage)
      (λ o. count_by f (pipes_of_branch ins o)) order outs apart.stages in
      omega (arith, a, b, c, d, e, g)

  -- the pipes of a branch that read an input
  branch_reads : (a : ℕ) (d : End) → a < length ins → (o : End)
      → count_by (is_read_by (get_or ins a d).stage (get_or ins a d).number) (pipes_of_branch ins o)
      ≡ cond (meets o (get_or ins a d)) 1 0
  branch_reads a d l o = go (leaves o) refl
    where
      s : ℕ
      s = (get_or ins a d).stage

      i : ℕ
      i = (get_or ins a d).number

      go : (b : Bool) → leaves o ≡ b
          → count_by (is_read_by (get_or ins a d).stage (get_or ins a d).number)
          (cond b (pipe_to_sink o ∷ [])
          (map (pipe_to (StageAt o.stage) o.number) (filter (meets o) ins)))
          ≡ cond (meets o (get_or ins a d)) 1 0
      go true e = sym (ap (λ t. cond t 1 0) (outside_meets_none o.place (get_or ins a d).place e))
      go false e =
          let k = is_end (get_or ins a d).stage (get_or ins a d).number in
          count_map (is_read_by (get_or ins a d).stage (get_or ins a d).number)
          (pipe_to (StageAt o.stage) o.number) (filter (meets o) ins)
          ∙ (count_filter k (meets o) ins
          ∙ count_one_and (meets o) k ins (apart.inputs a d l) a d l (own_end (get_or ins a d)))

  -- each input is read by just one pipe
  pub input_once : (a : ℕ) (d : End) → a < length ins
      → count_by (is_read_by (get_or ins a d).stage (get_or ins a d).number)
      (pipes_of ins outs order) ≡ 1
  input_once a d l =
      let e = get_or ins a d in
      let f = is_read_by e.stage e.number in
      let x = counted f in
      let y = count_one_and (λ x. not (is_fed outs x)) (is_end e.stage e.number) ins
      (apart.inputs a d l) a d l (own_end e) in
      let z = sum_agree (λ o. count_by f (pipes_of_branch ins o)) (λ o. cond (meets o e) 1 0) outs
      (branch_reads a d l) in
      let w = any_counted (λ o. meets o e) outs (apart.fed e) in
      omega (arith, x, y, z, w)

  -- no branch writes a source's pipe
  branch_is_no_source : (s i : ℕ) (o : End)
      → count_by (λ (p : Pipe). is_same_node p.writer (SourceOf s i)) (pipes_of_branch ins o) ≡ 0
  branch_is_no_source s i o = go (leaves o)
    where
      go : (b : Bool) → count_by (λ (p : Pipe). is_same_node p.writer (SourceOf s i))
          (cond b (pipe_to_sink o ∷ [])
          (map (pipe_to (StageAt o.stage) o.number) (filter (meets o) ins))) ≡ 0
      go true = refl
      go false = count_map (λ (p : Pipe). is_same_node p.writer (SourceOf s i))
          (pipe_to (StageAt o.stage) o.number) (filter (meets o) ins)
          ∙ count_none (λ x. false) (filter (meets o) ins) (λ x. refl)

  -- the source of an input that no stage writes writes just one pipe
  pub source_once : (a : ℕ) (d : End) → a < length ins
      → count_by (λ (p : Pipe). is_same_node p.writer
      (SourceOf (get_or ins a d).stage (get_or ins a d).number)) (pipes_of ins outs order)
      ≡ cond (not (is_fed outs (get_or ins a d))) 1 0
  source_once a d l =
      let e = get_or ins a d in
      let f = λ (p : Pipe). is_same_node p.writer (SourceOf e.stage e.number) in
      let x = counted f in
      let y = count_one_and (λ x. not (is_fed outs x)) (is_end e.stage e.number) ins
      (apart.inputs a d l) a d l (own_end e) in
      let z = sum_none (λ o. count_by f (pipes_of_branch ins o)) outs
      (branch_is_no_source e.stage e.number) in
      omega (arith, x, y, z)

  -- the pipes of a branch that a sink reads
  branch_sinks : (s b : ℕ) (o : End)
      → count_by (λ (p : Pipe). is_same_node p.reader (SinkOf s b)) (pipes_of_branch ins o)
      ≡ cond (leaves o && is_end s b o) 1 0
  branch_sinks s b o = go (leaves o)
    where
      go : (t : Bool) → count_by (λ (p : Pipe). is_same_node p.reader (SinkOf s b))
          (cond t (pipe_to_sink o ∷ [])
          (map (pipe_to (StageAt o.stage) o.number) (filter (meets o) ins)))
          ≡ cond (t && is_end s b o) 1 0
      go true = omega arith
      go false = count_map (λ (p : Pipe). is_same_node p.reader (SinkOf s b))
          (pipe_to (StageAt o.stage) o.number) (filter (meets o) ins)
          ∙ count_none (λ x. false) (filter (meets o) ins) (λ x. refl)

  -- the sink of a branch that goes outside reads just one pipe
  pub sink_once : (a : ℕ) (d : End) → a < length outs
      → count_by (λ (p : Pipe). is_same_node p.reader
      (SinkOf (get_or outs a d).stage (get_or outs a d).number)) (pipes_of ins outs order)
      ≡ cond (leaves (get_or outs a d)) 1 0
  sink_once a d l =
      let e = get_or outs a d in
      let f = λ (p : Pipe). is_same_node p.reader (SinkOf e.stage e.number) in
      let x = counted f in
      let y = count_none (λ (x : End). not (is_fed outs x) && false) ins
      (λ x. and_false (not (is_fed outs x))) in
      let z = sum_agree (λ o. count_by f (pipes_of_branch ins o))
      (λ o. cond (leaves o && is_end e.stage e.number o) 1 0) outs
      (branch_sinks e.stage e.number) in
      let w = count_one_and leaves (is_end e.stage e.number) outs (apart.branches a d l) a d l
      (own_end e) in
      omega (arith, x, y, z, w)

  -- a branch writes at most one pipe
  branch_writes : (s b : ℕ) (o : End)
      → count_by (is_written_by s b) (pipes_of_branch ins o) ≤ cond (is_end s b o) 1 0
  branch_writes s b o = go (leaves o)
    where
      go : (t : Bool) → count_by (is_written_by s b)
          (cond t (pipe_to_sink o ∷ [])
          (map (pipe_to (StageAt o.stage) o.number) (filter (meets o) ins))) ≤ cond
          (is_end s b o) 1 0
      go true = omega arith
      go false = inner (is_end s b o) refl
        where
          inner : (v : Bool) → is_end s b o ≡ v
              → count_by (is_written_by s b)
              (map (pipe_to (StageAt o.stage) o.number) (filter (meets o) ins)) ≤ cond
              (is_end s b o) 1 0
          inner true e =
              let m = count_map (is_written_by s b) (pipe_to (StageAt o.stage) o.number)
              (filter (meets o) ins) in
              let le = count_by-le-length (λ (x : End). is_end s b o) (filter (meets o) ins) in
              let n = length-filter (meets o) ins in
              let r = apart.read o in
              let c : ◌≡◌ {A = ℕ} (cond (is_end s b o) 1 0) 1 = ap (λ t. cond t 1 0) e in
              omega (arith, m, le, n, r, c)
          inner false e =
              let m = count_map (is_written_by s b) (pipe_to (StageAt o.stage) o.number)
              (filter (meets o) ins) in
              let z = count_none (λ (x : End). is_end s b o) (filter (meets o) ins) (λ x. e) in
              omega (arith, m, z)

  -- each branch writes at most one pipe
  pub branch_once : (a : ℕ) (d : End) → a < length outs
      → count_by (is_written_by (get_or outs a d).stage (get_or outs a d).number)
      (pipes_of ins outs order) ≤ 1
  branch_once a d l =
      let e = get_or outs a d in
      let f = is_written_by e.stage e.number in
      let x = counted f in
      let y = count_none (λ (x : End). not (is_fed outs x) && false) ins
      (λ x. and_false (not (is_fed outs x))) in
      let z = sum_by-le-sum_by (λ o. count_by f (pipes_of_branch ins o))
      (λ o. cond (is_end e.stage e.number o) 1 0) outs (branch_writes e.stage e.number) in
      let w = apart.branches a d l in
      omega (arith, x, y, z, w)

  -- how many pipes there are: one for each input, and one for each sink
  pub pipes_counted : length (pipes_of ins outs order) ≡ length ins + length (filter leaves outs)
  pipes_counted =
      let a = length_counted (pipes_of ins outs order) in
      let b = counted (λ p. true) in
      let c = fed_or_not ins in
      let d = sum_agree (λ o. count_by (λ (p : Pipe). true) (pipes_of_branch ins o))
      (λ o. cond (leaves o) 1 0 + count_by (meets o) ins) outs branch_pipes in
      let e = sum_add (λ o. cond (leaves o) 1 0) (λ o. count_by (meets o) ins) outs in
      let f = length-filter leaves outs in
      let g = swapped ins in
      omega (arith, a, b, c, d, e, f, g)
    where
      length_counted : {A : Type 0} (xs : List A) → count_by (λ x. true) xs ≡ length xs
      length_counted [] = refl
      length_counted (x ∷ xs) =
          let c = sum_by-cons (λ y. 1) x xs in
          let ih = length_counted xs in
          omega (arith, c, ih)

      -- an input has a source, or the one branch that meets it
      fed_or_not : (xs : List End)
          → count_by (λ x. not (is_fed outs x) && true) xs + sum_by
          (λ x. count_by (λ o. meets o x) outs) xs ≡ length xs
      fed_or_not [] = refl
      fed_or_not (x ∷ xs) =
          let a = sum_by-cons (λ x. cond (not (is_fed outs x) && true) 1 0) x xs in
          let b = sum_by-cons (λ x. count_by (λ o. meets o x) outs) x xs in
          let c = any_counted (λ o. meets o x) outs (apart.fed x) in
          let d : ◌≡◌ {A = ℕ} (cond (not (is_fed outs x) && true) 1 0)
          (cond (not (is_fed outs x)) 1 0) =
          ap (λ t. cond t 1 0) (and_true (not (is_fed outs x))) in
          let ih = fed_or_not xs in
          omega (arith, a, b, c, d, ih)
        where
          and_true : (b : Bool) → (b && true) ≡ b
          and_true true = refl
          and_true false = refl

      branch_pipes : (o : End) → count_by (λ (p : Pipe). true) (pipes_of_branch ins o)
          ≡ cond (leaves o) 1 0 + count_by (meets o) ins
      branch_pipes o = go (leaves o) refl
        where
          go : (b : Bool) → leaves o ≡ b
              → count_by (λ (p : Pipe). true)
              (cond b (pipe_to_sink o ∷ [])
              (map (pipe_to (StageAt o.stage) o.number) (filter (meets o) ins)))
              ≡ cond b 1 0 + count_by (meets o) ins
          go true e =
              let z = count_none (meets o) ins (λ x. outside_meets_none o.place x.place e) in
              omega (arith, z)
          go false e =
              let a = count_map (λ (p : Pipe). true) (pipe_to (StageAt o.stage) o.number)
              (filter (meets o) ins) in
              let b = count_filter (λ x. true) (meets o) ins in
              let c = count_agree (λ x. meets o x && true) (meets o) ins
              (λ x. and_true (meets o x)) in
              omega (arith, a, b, c)
            where
              and_true : (b : Bool) → (b && true) ≡ b
              and_true true = refl
              and_true false = refl

      -- the sums over inputs and branches may be swapped
      swapped : (xs : List End) → sum_by (λ o. count_by (meets o) xs) outs
          ≡ sum_by (λ x. count_by (λ o. meets o x) outs) xs
      swapped [] = sum_none (λ (o : End). 0) outs (λ o. refl)
      swapped (x ∷ xs) =
          let a = sum_agree (λ (o : End). count_by (meets o) (x ∷ xs))
          (λ o. cond (meets o x) 1 0 + count_by (meets o) xs) outs
          (λ o. sum_by-cons (λ y. cond (meets o y) 1 0) x xs) in
          let b = sum_add (λ (o : End). cond (meets o x) 1 0) (λ o. count_by (meets o) xs) outs in
          let c = sum_by-cons (λ x. count_by (λ o. meets o x) outs) x xs in
          let ih = swapped xs in
          omega (arith, a, b, c, ih)
