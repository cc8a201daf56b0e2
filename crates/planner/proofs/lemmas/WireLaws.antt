-- The pipes that each node of a plan has as its own are those that the table of pipes gives it.
use Rattle.std.proofs.Common.{◌≡◌, ℕ, ◌<◌, ◌≤◌, ◌==◌, ◌&&◌, Bool, true, false, not, cond, List}
use Rattle.std.proofs.Common.{length, map, get_or, Option, Some, refl, sym, ap, ◌∙◌, subst, ⊎_elim}
use Rattle.std.proofs.Common.{arith}
use Rattle.std.specs.List.{Contains, count_by, position_or_len}
use Rattle.std.proofs.lemmas.Bool.{false≢true, and_from, and_parts, eq-eqb, eqb-true}
use Rattle.std.proofs.lemmas.List.{length-map, get_or-map}
use Rattle.std.proofs.lemmas.List.Sums.{passes_at_first}
use Rattle.graphs.specs.Graph.{Graph, writer, reader, IsPipe, Writes, Reads, IsAmong, HasNone}
use Rattle.graphs.specs.Graph.{HasOne, AreAll, present}
use Rattle.planner.specs.declared.place.End.{End}
use Rattle.planner.specs.declared.plan.NodeName.{NodeName}
use Rattle.planner.specs.declared.plan.NodeName.TheVariants.{SourceOf, StageAt, SinkOf}
use Rattle.planner.specs.declared.plan.Pipe.{Pipe}
use Rattle.planner.specs.Ends.{is_fed, leaves}
use Rattle.planner.specs.Tables.{is_same_node, source_of, sink_of, pipes_of, names_of, number_of}
use Rattle.planner.specs.Tables.{ends_of, is_read_by, is_written_by, pipe_of_input, pipe_of_branch}
use Rattle.planner.specs.Tables.{if_below, numbers_from}
use Rattle.planner.proofs.lemmas.PipeLaws.{AreApart, input_once, source_once, sink_once}
use Rattle.planner.proofs.lemmas.PipeLaws.{branch_once}
use Rattle.planner.proofs.lemmas.SortLaws.{same_counted, position_of_one, one_from, same_is}
use Rattle.planner.proofs.lemmas.SortLaws.{same_self, FromSource, ToInput, ToSink, IsPipeOf, kinds}
use Rattle.planner.proofs.lemmas.ListLaws.{below_some, some_below, all_present, among_present}
use Rattle.planner.proofs.lemmas.ListLaws.{of_among_present, distinct_present}
use Rattle.planner.proofs.lemmas.NumberLaws.{AreOrdered, AreKeyed, none, named_at, number_at}
use Rattle.planner.proofs.lemmas.NumberLaws.{in_order}

-- a pipe in place of one that is not there
abbrev pub no_pipe : Pipe
no_pipe = record { writer = none; branch = 0; reader = none; input = 0 }

stage_of : (t s : ℕ) → StageAt t ≡ StageAt s → t ≡ s
stage_of t s h = cc h

module _ (ins outs : List End) (order : List ℕ) (apart : AreApart ins outs order)
    (keyed : AreKeyed ins outs) (ordered : AreOrdered ins outs order) (g : Graph)
    (long_g : length g.nodes ≡ length (names_of ins outs order))
    (pipes_g : g.pipes ≡ map (ends_of (names_of ins outs order)) (pipes_of ins outs order)) where
  pub count_g : length g.pipes ≡ length (pipes_of ins outs order)
  count_g = ap length pipes_g ∙ length-map (pipes_of ins outs order)
      (ends_of (names_of ins outs order))

  ends_g : (p : ℕ) → p < length (pipes_of ins outs order)
      → get_or g.pipes p (0, 0) ≡ ends_of (names_of ins outs order)
      (get_or (pipes_of ins outs order) p no_pipe)
  ends_g p l = ap (λ xs. get_or xs p (0, 0)) pipes_g
      ∙ get_or-map (ends_of (names_of ins outs order)) (pipes_of ins outs order) p no_pipe (0, 0) l

  pub kind_at : (p : ℕ) → p < length (pipes_of ins outs order)
      → IsPipeOf ins outs (get_or (pipes_of ins outs order) p no_pipe)
  kind_at p l = kinds ins outs order p no_pipe l

  pub writer_g : (p : ℕ) → p < length (pipes_of ins outs order)
      → writer g p ≡ number_of (names_of ins outs order)
      (get_or (pipes_of ins outs order) p no_pipe).writer
  writer_g p l = ap (λ (e : ℕ × ℕ). e.0) (ends_g p l)

  pub reader_g : (p : ℕ) → p < length (pipes_of ins outs order)
      → reader g p ≡ number_of (names_of ins outs order)
      (get_or (pipes_of ins outs order) p no_pipe).reader
  reader_g p l = ap (λ (e : ℕ × ℕ). e.1) (ends_g p l)

  -- the writer of each pipe comes before its reader, which is a node
  pub before_g : (p : ℕ) → IsPipe g p → writer g p < reader g p
  before_g p is =
      let l : p < length (pipes_of ins outs order) = omega (arith, count_g) in
      let o = in_order ins outs order keyed ordered (get_or (pipes_of ins outs order) p no_pipe)
      (kind_at p l) in
      omega (arith, writer_g p l, reader_g p l, o)

  pub within_g : (p : ℕ) → IsPipe g p → reader g p < length g.nodes
  within_g p is =
      let l : p < length (pipes_of ins outs order) = omega (arith, count_g) in
      let o = in_order ins outs order keyed ordered (get_or (pipes_of ins outs order) p no_pipe)
      (kind_at p l) in
      omega (arith, reader_g p l, o, long_g)

  -- the pipes that have a node at one of their ends
  module _ (node : Pipe → NodeName) (at : ℕ → ℕ) (at_is : (p : ℕ)
      → p < length (pipes_of ins outs order)
      → at p ≡ number_of (names_of ins outs order)
      (node (get_or (pipes_of ins outs order) p no_pipe))) (k : ℕ) (name : NodeName)
      (kl : k < length (names_of ins outs order))
      (called : get_or (names_of ins outs order) k none ≡ name) where
    has_end : (p : ℕ) → IsPipe g p × (at p ≡ k) → (p < length (pipes_of ins outs order))
        × (node (get_or (pipes_of ins outs order) p no_pipe) ≡ name)
    has_end p (is, r) =
        let pl : p < length (pipes_of ins outs order) = omega (arith, count_g) in (
          pl,
          sym (named_at (names_of ins outs order)
              (node (get_or (pipes_of ins outs order) p no_pipe)) k kl (sym (at_is p pl) ∙ r))
              ∙ called,
        )

    from_end : (p : ℕ) → p < length (pipes_of ins outs order)
        → node (get_or (pipes_of ins outs order) p no_pipe) ≡ name → IsPipe g p × (at p ≡ k)
    from_end p pl r = (
      omega (arith, count_g),
      at_is p pl
          ∙ (ap (λ n. number_of (names_of ins outs order) n) r
          ∙ number_at ins outs order keyed ordered k name kl called),
    )

    no_end : ((p : Pipe) → IsPipeOf ins outs p → is_same_node (node p) name ≡ false)
        → HasNone (λ p. IsPipe g p × (at p ≡ k))
    no_end never p r =
        let (pl, pe) = has_end p r in
        false≢true (sym (never (get_or (pipes_of ins outs order) p no_pipe) (kind_at p pl))
        ∙ (ap (λ (m : NodeName). is_same_node m name) pe ∙ same_self name))

    one_end : count_by (λ (p : Pipe). is_same_node (node p) name) (pipes_of ins outs order) ≡ 1
        → HasOne (λ p. IsPipe g p × (at p ≡ k))
    one_end one =
        let ps = pipes_of ins outs order in
        let f = λ (p : Pipe). is_same_node (node p) name in
        let (ql, qe) = one_from f ps no_pipe (omega (arith, one)) in
        let q = position_or_len f ps in (
          q,
          from_end q ql (same_is (node (get_or ps q no_pipe)) name qe),
          λ r w.
              let (rl, re) = has_end r w in
              same_counted f ps (omega (arith, one)) r q no_pipe rl ql
              (ap (λ (m : NodeName). is_same_node m name) re ∙ same_self name) qe,
        )

  -- a source reads no pipe, and writes just one
  pub source_wired : (k : ℕ) (x : End) → k < length (names_of ins outs order)
      → get_or (names_of ins outs order) k none ≡ source_of x → Contains ins x
      → is_fed outs x ≡ false → HasNone (Reads g k) × HasOne (Writes g k)
  source_wired k x l e (a, al, ae) fed =
      let c = source_once ins outs order apart a x al in
      let one : count_by (λ (p : Pipe). is_same_node p.writer (source_of x))
      (pipes_of ins outs order) ≡ 1 =
      subst
      (λ (y : End). count_by (λ (p : Pipe). is_same_node p.writer (SourceOf y.stage y.number))
      (pipes_of ins outs order) ≡ cond (not (is_fed outs y)) 1 0) ae c
      ∙ ap (λ b. cond (not b) 1 0) fed in
      let read = λ (p : Pipe). is_same_node p.reader (source_of x) in
      let none : (p : Pipe) → IsPipeOf ins outs p → is_same_node p.reader (source_of x) ≡ false =
      λ p kind. ⊎_elim (λ (f : FromSource ins outs p). ap read f.is)
      (λ rest. ⊎_elim (λ (f : ToInput ins outs p). ap read f.is)
      (λ (f : ToSink ins outs p). ap read f.is) rest) kind in (
        no_end (λ p. p.reader) (reader g) reader_g k (source_of x) l e none,
        one_end (λ p. p.writer) (writer g) writer_g k (source_of x) l e one,
      )

  -- a sink writes no pipe, and reads just one
  pub sink_wired : (k : ℕ) (o : End) → k < length (names_of ins outs order)
      → get_or (names_of ins outs order) k none ≡ sink_of o → Contains outs o → leaves o ≡ true
      → HasNone (Writes g k) × HasOne (Reads g k)
  sink_wired k o l e (a, al, ae) out =
      let c = sink_once ins outs order apart a o al in
      let one : count_by (λ (p : Pipe). is_same_node p.reader (sink_of o)) (pipes_of ins outs order)
      ≡ 1 =
      subst
      (λ (y : End). count_by (λ (p : Pipe). is_same_node p.reader (SinkOf y.stage y.number))
      (pipes_of ins outs order) ≡ cond (leaves y) 1 0) ae c ∙ ap (λ b. cond b 1 0) out in
      let written = λ (p : Pipe). is_same_node p.writer (sink_of o) in
      let none : (p : Pipe) → IsPipeOf ins outs p → is_same_node p.writer (sink_of o) ≡ false =
      λ p kind. ⊎_elim (λ (f : FromSource ins outs p). ap written f.is)
      (λ rest. ⊎_elim (λ (f : ToInput ins outs p). ap written f.is)
      (λ (f : ToSink ins outs p). ap written f.is) rest) kind in (
        no_end (λ p. p.writer) (writer g) writer_g k (sink_of o) l e none,
        one_end (λ p. p.reader) (reader g) reader_g k (sink_of o) l e one,
      )

  -- the pipes that have a stage at one of their ends are those with its numbers there
  module _ (node : Pipe → NodeName) (at : ℕ → ℕ) (at_is : (p : ℕ)
      → p < length (pipes_of ins outs order)
      → at p ≡ number_of (names_of ins outs order)
      (node (get_or (pipes_of ins outs order) p no_pipe))) (num : Pipe
      → ℕ) (k s m : ℕ) (kl : k < length (names_of ins outs order))
      (called : get_or (names_of ins outs order) k none ≡ StageAt s) (known : (p : ℕ)
      → p < length (pipes_of ins outs order)
      → node (get_or (pipes_of ins outs order) p no_pipe) ≡ StageAt s
      → (num (get_or (pipes_of ins outs order) p no_pipe) < m)
      × (count_by (λ (q : Pipe). is_same_node (node q)
      (StageAt s) && (num q == num (get_or (pipes_of ins outs order) p no_pipe)))
      (pipes_of ins outs order) ≤ 1)) where
    abbrev ps : List Pipe
    ps = pipes_of ins outs order

    abbrev has_number : ℕ → Pipe → Bool
    has_number i q = is_same_node (node q) (StageAt s) && (num q == i)

    abbrev part : ℕ → Option ℕ
    part i = if_below (length ps) (position_or_len (has_number i) ps)

    at_part : (i p : ℕ) → part i ≡ Some p → (p < length ps)
        × (node (get_or ps p no_pipe) ≡ StageAt s) × (num (get_or ps p no_pipe) ≡ i)
    at_part i p h =
        let (l, e) = below_some (length ps) (position_or_len (has_number i) ps) p h in
        let t = ap (λ q. has_number i (get_or ps q no_pipe)) (sym e)
        ∙ passes_at_first (has_number i) ps no_pipe l in
        let (x, y) = and_parts (is_same_node (node (get_or ps p no_pipe)) (StageAt s))
        (num (get_or ps p no_pipe) == i) t in (
          omega arith,
          same_is (node (get_or ps p no_pipe)) (StageAt s) x,
          eqb-true (num (get_or ps p no_pipe)) i y,
        )

    stage_wired : AreAll (λ p. IsPipe g p × (at p ≡ k)) (present (map part (numbers_from 0 m)))
    stage_wired = record {
      each = λ p. (to p, from p);
      once = distinct_present part m (λ i j p il jl a b. let (x, y, z) = at_part i p a in
          let (u, v, w) = at_part j p b in sym z ∙ w) 0 m (omega arith);
    }
      where
        to : (p : ℕ) → IsPipe g p × (at p ≡ k) → IsAmong p (present (map part (numbers_from 0 m)))
        to p r =
            let (pl, pe) = has_end node at at_is k (StageAt s) kl called p r in
            let q = get_or ps p no_pipe in
            let (l, few) = known p pl pe in
            let passes = and_from (is_same_node (node q) (StageAt s)) (num q == num q)
            (ap (λ (n : NodeName). is_same_node n (StageAt s)) pe
            ∙ same_self (StageAt s)) (eq-eqb (num q) (num q) refl) in
            let here = position_of_one (has_number (num q)) ps few p no_pipe pl passes in
            among_present part 0 m (num q) p (omega arith) (omega (arith, l))
            (some_below (length ps) (position_or_len (has_number (num q)) ps) p
            (omega (arith, here, pl)) here)

        from : (p : ℕ) → IsAmong p (present (map part (numbers_from 0 m))) → IsPipe g p × (at p ≡ k)
        from p r =
            let (i, a, b, h) = of_among_present part 0 m p r in
            let (x, y, z) = at_part i p h in
            from_end node at at_is k (StageAt s) kl called p x y

  -- the input that a pipe to a stage reads
  read_input : (s : ℕ) (p : Pipe) → IsPipeOf ins outs p → p.reader ≡ StageAt s
      → (x : End) × Contains ins x × (x.stage ≡ s) × (p.input ≡ x.number)
  read_input s p kind e = ⊎_elim
      (λ (f : FromSource ins outs p). (
        f.x,
        f.x_in,
        stage_of f.x.stage s (sym (ap (λ (q : Pipe). q.reader) f.is) ∙ e),
        ap (λ (q : Pipe). q.input) f.is,
      ))
      (λ rest. ⊎_elim
      (λ (f : ToInput ins outs p). (
        f.x,
        f.x_in,
        stage_of f.x.stage s (sym (ap (λ (q : Pipe). q.reader) f.is) ∙ e),
        ap (λ (q : Pipe). q.input) f.is,
      ))
      (λ (f : ToSink ins outs p). let h : sink_of f.o ≡ StageAt s =
      sym (ap (λ (q : Pipe). q.reader) f.is) ∙ e in absurd (cc h)) rest) kind

  -- the pipes that a stage reads are those of its inputs
  pub inputs_wired : (k s m : ℕ) → k < length (names_of ins outs order)
      → get_or (names_of ins outs order) k none ≡ StageAt s
      → ((x : End) → Contains ins x → x.stage ≡ s → x.number < m)
      → ((i : ℕ) → i < m → (x : End) × Contains ins x × (x.stage ≡ s) × (x.number ≡ i))
      → AreAll (Reads g k) (map (pipe_of_input (pipes_of ins outs order) s) (numbers_from 0 m))
  inputs_wired k s m l e lows has =
      subst (AreAll (Reads g k)) (all_present (pipe_of_input (pipes_of ins outs order) s)
      (length (pipes_of ins outs order)) 0 m
      (λ i il. (one_from (is_read_by s i) (pipes_of ins outs order) no_pipe
      (let o = one_input i (omega (arith, il)) in omega (arith, o))).0))
      (stage_wired (λ q. q.reader) (reader g) reader_g (λ q. q.input) k s m l e (λ p pl pe.
      let (x, xc, xs, xi) = read_input s (get_or (pipes_of ins outs order) p no_pipe)
      (kind_at p pl) pe in
      let il = lows x xc xs in
      let o = one_input (get_or (pipes_of ins outs order) p no_pipe).input
      (omega (arith, il, xi)) in
      (omega (arith, il, xi), omega (arith, o))))
    where
      one_input : (i : ℕ) → i < m → count_by (is_read_by s i) (pipes_of ins outs order) ≡ 1
      one_input i il =
          let (x, (a, al, ae), xs, xi) = has i il in
          let c = input_once ins outs order apart a x al in
          let d =
          subst (λ (y : End). count_by (is_read_by y.stage y.number) (pipes_of ins outs order)
          ≡ 1) ae c in
          let d' = subst (λ n. count_by (is_read_by n x.number) (pipes_of ins outs order)
          ≡ 1) xs d in
          subst (λ n. count_by (is_read_by s n) (pipes_of ins outs order) ≡ 1) xi d'

  -- the branch that a pipe of a stage writes
  written_branch : (s : ℕ) (p : Pipe) → IsPipeOf ins outs p → p.writer ≡ StageAt s
      → (o : End) × Contains outs o × (o.stage ≡ s) × (p.branch ≡ o.number)
  written_branch s p kind e = ⊎_elim
      (λ (h : FromSource ins outs p). let c : source_of h.x ≡ StageAt s =
      sym (ap (λ (q : Pipe). q.writer) h.is) ∙ e in absurd (cc c))
      (λ rest. ⊎_elim
      (λ (h : ToInput ins outs p). (
        h.o,
        h.o_in,
        stage_of h.o.stage s (sym (ap (λ (q : Pipe). q.writer) h.is) ∙ e),
        ap (λ (q : Pipe). q.branch) h.is,
      ))
      (λ (h : ToSink ins outs p). (
        h.o,
        h.o_in,
        stage_of h.o.stage s
            (sym (ap (λ (q : Pipe). q.writer) h.is) ∙ e),
        ap (λ (q : Pipe). q.branch) h.is,
      )) rest)
      kind

  -- the pipes that a stage writes are those of its branches
  pub branches_wired : (k s m : ℕ) → k < length (names_of ins outs order)
      → get_or (names_of ins outs order) k none ≡ StageAt s
      → ((o : End) → Contains outs o → o.stage ≡ s → o.number < m)
      → AreAll (Writes g k)
      (present (map (pipe_of_branch (pipes_of ins outs order) s) (numbers_from 0 m)))
  branches_wired k s m l e lows = stage_wired (λ q. q.writer) (writer g) writer_g
      (λ q. q.branch) k s m l e (λ p pl pe.
      let (o, (a, al, ae), os, ob) = written_branch s (get_or (pipes_of ins outs order) p no_pipe)
      (kind_at p pl) pe in
      let bl = lows o (a, al, ae) os in
      let c = branch_once ins outs order apart a o al in
      let d = subst (λ (y : End). count_by (is_written_by y.stage y.number)
      (pipes_of ins outs order) ≤ 1) ae c in
      let d' = subst (λ n. count_by (is_written_by n o.number) (pipes_of ins outs order) ≤ 1) os
      d in (
        omega (arith, bl, ob),
        subst (λ n. count_by (is_written_by s n) (pipes_of ins outs order) ≤ 1) (sym ob) d',
      ))
