-- The plan of a script that makes no FIFO is a forest. Its nodes are placed so: the sources, then
-- the sinks, then the stages in planned order. A source and a sink have one pipe each; a stage
-- writes at most one pipe to a later stage.
use Rattle.std.proofs.Common.{◌≡◌, ℕ, zero, suc, ◌+◌, ◌-◌, ◌<◌, ◌≤◌, ◌==◌, ◌⊎◌, Bool, true, false}
use Rattle.std.proofs.Common.{not, cond, List, [], ◌∷◌, ◌++◌, length, map, get_or, nat_lt, refl}
use Rattle.std.proofs.Common.{sym, ap, ◌∙◌, subst, inl, inr, ⊎_elim, arith}
use Rattle.std.specs.Prelude.{Result, Ok, Err, IfOk}
use Rattle.std.specs.List.{Contains, count_by, enumerate_from}
use Rattle.std.proofs.lemmas.Bool.{false≢true, cases_lt, and_from, eq-eqb, lt-ltb, ltb-true}
use Rattle.std.proofs.lemmas.List.{length-map}
use Rattle.pipeline_text.specs.declared.script.Script.{Script}
use Rattle.commands.specs.Operands.{output_operands, writes_standard}
use Rattle.graphs.specs.Graph.{Graph, IsPipe, writer, reader, LeadsLater, IsForest}
use Rattle.graphs.specs.Orders.{IsPlannedOrder}
use Rattle.planner.specs.declared.fault.PlanFault.{PlanFault}
use Rattle.planner.specs.declared.place.Place.{Place}
use Rattle.planner.specs.declared.place.End.{End}
use Rattle.planner.specs.declared.plan.NodeName.{NodeName}
use Rattle.planner.specs.declared.plan.NodeName.TheVariants.{SourceOf, StageAt, SinkOf}
use Rattle.planner.specs.declared.plan.Pipe.{Pipe}
use Rattle.planner.specs.Places.{Stage, out_places, operand_place, standard_output}
use Rattle.planner.specs.Ends.{in_ends, out_ends, end_at, ends_at, is_fed, leaves, meets, meets_at}
use Rattle.planner.specs.Ends.{unfed, leaving}
use Rattle.planner.specs.Faults.{AreAbsent, the_faults}
use Rattle.planner.specs.Stages.{is_negated}
use Rattle.planner.specs.Tables.{is_same_node, source_of, sink_of, names_of, number_of, pipes_of}
use Rattle.planner.specs.Tables.{ends_of, is_written_by, nodes_of}
use Rattle.planner.specs.Planned.{Planned, MeetsPlan, joined, plan_of, graph_node, graph_of}
use Rattle.planner.specs.Laws.{ScriptsWithoutFifosHaveForests}
use Rattle.planner.proofs.lemmas.TurnLaws.{stages_in_turn}
use Rattle.planner.proofs.lemmas.Members.{origin, of_map}
use Rattle.planner.proofs.lemmas.PipeLaws.{AreApart, source_once, sink_once, branch_once}
use Rattle.planner.proofs.lemmas.SortLaws.{same_counted, same_self, FromSource, ToInput, ToSink}
use Rattle.planner.proofs.lemmas.NumberLaws.{AreOrdered, AreKeyed, named_at, long, number_stage}
use Rattle.planner.proofs.lemmas.NumberLaws.{stage_within, number_source, number_sink}
use Rattle.planner.proofs.lemmas.RiseLaws.{stages_ordered, stages_keyed, nodes_counted}
use Rattle.planner.proofs.lemmas.Apart.{stages_read_once, plan_apart}
use Rattle.planner.proofs.lemmas.WireLaws.{no_pipe, count_g, kind_at, writer_g, reader_g, before_g}
use Rattle.planner.proofs.lemmas.WireLaws.{within_g}

-- ---- the places

-- the place of the node k, of u sources, m stages and n sinks, which are numbered in this order
abbrev pub spot : ℕ → ℕ → ℕ → ℕ → ℕ
spot u m n k = cond (nat_lt k u) k (cond (nat_lt k (u + m)) (k + n) (k - m))

not_less : (a b : ℕ) → b ≤ a → nat_lt a b ≡ false
not_less a b h = go (nat_lt a b) refl
  where
    go : (t : Bool) → nat_lt a b ≡ t → t ≡ false
    go true e = let l = ltb-true a b e in absurd (omega (arith, l, h))
    go false e = refl

spot_source : (u m n k : ℕ) → k < u → spot u m n k ≡ k
spot_source u m n k l = ap (λ b. cond b k (cond (nat_lt k (u + m)) (k + n) (k - m))) (lt-ltb k u l)

spot_stage : (u m n k : ℕ) → u ≤ k → k < u + m → spot u m n k ≡ k + n
spot_stage u m n k a b =
    ap (λ t. cond t k (cond (nat_lt k (u + m)) (k + n) (k - m))) (not_less k u a)
    ∙ ap (λ t. cond t (k + n) (k - m)) (lt-ltb k (u + m) b)

spot_sink : (u m n k : ℕ) → u + m ≤ k → spot u m n k ≡ k - m
spot_sink u m n k h =
    ap (λ t. cond t k (cond (nat_lt k (u + m)) (k + n) (k - m))) (not_less k u (omega arith))
    ∙ ap (λ t. cond t (k + n) (k - m)) (not_less k (u + m) h)

-- the place of the node k
abbrev pub HasSpot : ℕ → ℕ → ℕ → ℕ → Type 0
HasSpot u m n k =
    ((k < u) × (spot u m n k ≡ k))
    ⊎ (((u ≤ k) × (k < u + m) × (spot u m n k ≡ k + n)) ⊎ ((u + m ≤ k) × (spot u m n k ≡ k - m)))

spots : (u m n k : ℕ) → HasSpot u m n k
spots u m n k = ⊎_elim
    (λ (h : k < u). inl (h, spot_source u m n k h))
    (λ (h : u ≤ k). ⊎_elim
    (λ (l : k < u + m). inr (inl (h, l, spot_stage u m n k h l)))
    (λ (l : u + m ≤ k). inr (inr (l, spot_sink u m n k l)))
    (cases_lt k (u + m)))
    (cases_lt k u)

spot_within : (u m n k : ℕ) → k < u + m + n → spot u m n k < u + m + n
spot_within u m n k l = ⊎_elim
    (λ h. let e = h.1 in omega (arith, l, e))
    (λ rest. ⊎_elim
    (λ h. let a = h.1 in let e = h.2 in omega (arith, l, a, e))
    (λ h. let a = h.0 in let e = h.1 in omega (arith, l, a, e)) rest)
    (spots u m n k)

-- no two nodes have one place
spot_apart : (u m n j k : ℕ) → j < u + m + n → k < u + m + n → spot u m n j ≡ spot u m n k → j ≡ k
spot_apart u m n j k jl kl same = ⊎_elim
    (λ h. let a = h.0 in let e = h.1 in ⊎_elim
    (λ i. let c = i.0 in let f = i.1 in omega (arith, same, a, e, c, f))
    (λ rest. ⊎_elim
    (λ i. let c = i.0 in let f = i.2 in omega (arith, same, a, e, c, f))
    (λ i. let c = i.0 in let f = i.1 in omega (arith, same, a, e, c, f)) rest) (spots u m n k))
    (λ more. ⊎_elim
    (λ h. let a = h.0 in let b = h.1 in let e = h.2 in ⊎_elim
    (λ i. let c = i.0 in let f = i.1 in omega (arith, same, a, b, e, c, f))
    (λ rest. ⊎_elim
    (λ i. let f = i.2 in omega (arith, same, e, f))
    (λ i. let c = i.0 in let f = i.1 in omega (arith, same, kl, a, b, e, c, f)) rest)
    (spots u m n k))
    (λ h. let a = h.0 in let e = h.1 in ⊎_elim
    (λ i. let c = i.0 in let f = i.1 in omega (arith, same, a, e, c, f))
    (λ rest. ⊎_elim
    (λ i. let c = i.0 in let f = i.2 in omega (arith, same, jl, a, e, c, f))
    (λ i. let c = i.0 in let f = i.1 in omega (arith, same, a, e, c, f)) rest) (spots u m n k))
    more)
    (spots u m n j)

-- ---- the pipes to later nodes

module _ (ins outs : List End) (order : List ℕ) (apart : AreApart ins outs order)
    (keyed : AreKeyed ins outs) (ordered : AreOrdered ins outs order) (g : Graph)
    (long_g : length g.nodes ≡ length (names_of ins outs order))
    (pipes_g : g.pipes ≡ map (ends_of (names_of ins outs order)) (pipes_of ins outs order))
    (main : (o : End) (x : End) → Contains outs o → meets o x ≡ true → o.number ≡ 0) where
  abbrev u : ℕ
  u = length (unfed ins outs)

  abbrev m : ℕ
  m = length order

  abbrev n : ℕ
  n = length (leaving outs)

  abbrev pipe_at : ℕ → Pipe
  pipe_at p = get_or (pipes_of ins outs order) p no_pipe

  abbrev number : NodeName → ℕ
  number name = number_of (names_of ins outs order) name

  names_long : length (names_of ins outs order) ≡ u + m + n
  names_long = long ins outs order keyed ordered

  -- the pipe p leads from the source k; from the stage k to a later stage; to the sink k
  record LeadsFromSource (k p : ℕ) : Type 0 where
    pub there : p < length (pipes_of ins outs order)
    pub kind : FromSource ins outs (pipe_at p)
    pub is : number (pipe_at p).writer ≡ k
    pub low : k < u

  record LeadsToStage (k p : ℕ) : Type 0 where
    pub there : p < length (pipes_of ins outs order)
    pub kind : ToInput ins outs (pipe_at p)
    pub is : number (pipe_at p).writer ≡ k
    pub low : u ≤ k
    pub high : k < u + m

  record LeadsToSink (k p : ℕ) : Type 0 where
    pub there : p < length (pipes_of ins outs order)
    pub kind : ToSink ins outs (pipe_at p)
    pub is : number (pipe_at p).reader ≡ k
    pub high : u + m ≤ k

  stage_number : (s : ℕ) → Contains order s → (u ≤ number (StageAt s))
      × (number (StageAt s) < u + m)
  stage_number s c =
      let a = number_stage ins outs order keyed ordered s c in
      let b = stage_within ins outs order keyed ordered s c in
      (omega (arith, a), omega (arith, a, b))

  of_source : (k p : ℕ) → p < length (pipes_of ins outs order) → LeadsLater g (spot u m n) k p
      → FromSource ins outs (pipe_at p) → LeadsFromSource k p
  of_source k p l later f =
      let w : writer g p ≡ number (pipe_at p).writer =
      writer_g ins outs order apart keyed ordered g long_g pipes_g p l in
      let r : reader g p ≡ number (pipe_at p).reader =
      reader_g ins outs order apart keyed ordered g long_g pipes_g p l in
      let a : number (source_of f.x) < u =
      number_source ins outs order keyed ordered f.x f.x_in f.unfed in
      let b = stage_number f.x.stage (ordered.inputs f.x f.x_in) in
      let e : number (pipe_at p).writer ≡ number (source_of f.x) =
      ap (λ (q : Pipe). number q.writer) f.is in
      let h : number (pipe_at p).reader ≡ number (StageAt f.x.stage) =
      ap (λ (q : Pipe). number q.reader) f.is in
      ⊎_elim
      (λ wrote. record {
        there = l;
        kind = f;
        is = sym w ∙ wrote.0.1;
        low = let z = wrote.0.1 in
            omega (arith, w, a, e, z);
      })
      (λ read.
      let z = read.0.1 in
      let t = read.1 in
      let c = b.0 in
      let d = b.1 in
      let x = spot_stage u m n k (omega (arith, z, r, h, c)) (omega (arith, z, r, h, d)) in
      let y = spot_source u m n (writer g p) (omega (arith, w, e, a)) in
      absurd (omega (arith, t, x, y, z, r, h, c, w, e, a)))
      later

  of_input : (k p : ℕ) → p < length (pipes_of ins outs order) → LeadsLater g (spot u m n) k p
      → ToInput ins outs (pipe_at p) → LeadsToStage k p
  of_input k p l later f =
      let w : writer g p ≡ number (pipe_at p).writer =
      writer_g ins outs order apart keyed ordered g long_g pipes_g p l in
      let r : reader g p ≡ number (pipe_at p).reader =
      reader_g ins outs order apart keyed ordered g long_g pipes_g p l in
      let a = stage_number f.o.stage (ordered.branches f.o f.o_in) in
      let b = stage_number f.x.stage (ordered.inputs f.x f.x_in) in
      let e : number (pipe_at p).writer ≡ number (StageAt f.o.stage) =
      ap (λ (q : Pipe). number q.writer) f.is in
      let h : number (pipe_at p).reader ≡ number (StageAt f.x.stage) =
      ap (λ (q : Pipe). number q.reader) f.is in
      let al = a.0 in
      let ah = a.1 in
      let bl = b.0 in
      let bh = b.1 in
      ⊎_elim
      (λ wrote.
      let z = wrote.0.1 in
      record {
        there = l;
        kind = f;
        is = sym w ∙ z;
        low = omega (arith, w, al, e, z);
        high =
            omega (arith, w, ah, e, z);
      })
      (λ read.
      let z = read.0.1 in
      let t = read.1 in
      let before = before_g ins outs order apart keyed ordered g long_g pipes_g p read.0.0 in
      let x = spot_stage u m n k (omega (arith, z, r, h, bl)) (omega (arith, z, r, h, bh)) in
      let y = spot_stage u m n (writer g p) (omega (arith, w, e, al)) (omega (arith, w, e, ah)) in
      absurd (omega (arith, t, x, y, z, before)))
      later

  of_sink : (k p : ℕ) → p < length (pipes_of ins outs order) → LeadsLater g (spot u m n) k p
      → ToSink ins outs (pipe_at p) → LeadsToSink k p
  of_sink k p l later f =
      let w : writer g p ≡ number (pipe_at p).writer =
      writer_g ins outs order apart keyed ordered g long_g pipes_g p l in
      let r : reader g p ≡ number (pipe_at p).reader =
      reader_g ins outs order apart keyed ordered g long_g pipes_g p l in
      let a = stage_number f.o.stage (ordered.branches f.o f.o_in) in
      let (i, b, il) = number_sink ins outs order keyed ordered f.o f.o_in f.leaves in
      let e : number (pipe_at p).writer ≡ number (StageAt f.o.stage) =
      ap (λ (q : Pipe). number q.writer) f.is in
      let h : number (pipe_at p).reader ≡ number (sink_of f.o) =
      ap (λ (q : Pipe). number q.reader) f.is in
      let al = a.0 in
      let ah = a.1 in
      ⊎_elim
      (λ wrote.
      let z = wrote.0.1 in
      let t = wrote.1 in
      let x = spot_stage u m n k (omega (arith, w, al, e, z)) (omega (arith, w, ah, e, z)) in
      let y = spot_sink u m n (reader g p) (omega (arith, r, h, b)) in
      absurd (omega (arith, t, x, y, z, w, e, al, r, h, b, il)))
      (λ read.
      let z = read.0.1 in
      record { there = l; kind = f; is = sym r ∙ z; high = omega (arith, r, h, b, z) })
      later

  led : (k p : ℕ) → LeadsLater g (spot u m n) k p → LeadsFromSource k p
      ⊎ (LeadsToStage k p ⊎ LeadsToSink k p)
  led k p later =
      let c = count_g ins outs order apart keyed ordered g long_g pipes_g in
      let is : IsPipe g p = ⊎_elim (λ w. w.0.0) (λ r. r.0.0) later in
      let l : p < length (pipes_of ins outs order) = omega (arith, c, is) in
      ⊎_elim
      (λ f. inl (of_source k p l later f))
      (λ rest. ⊎_elim (λ f. inr (inl (of_input k p l later f)))
      (λ f. inr (inr (of_sink k p l later f))) rest)
      (kind_at ins outs order apart keyed ordered g long_g pipes_g p l)

  -- names with one number are one
  one_name : (k : ℕ) (a b : NodeName) → k < u + m + n → number a ≡ k → number b ≡ k → a ≡ b
  one_name k a b l x y =
      let c = names_long in
      let kl : k < length (names_of ins outs order) = omega (arith, c, l) in
      sym (named_at (names_of ins outs order) a k kl x)
      ∙ named_at (names_of ins outs order) b k kl y

  -- two pipes from one source, from one stage to later stages, and to one sink, are one
  same_end : (node : Pipe → NodeName) (name : NodeName) (k p q : ℕ) → k < u + m + n
      → count_by (λ (r : Pipe). is_same_node (node r) name) (pipes_of ins outs order) ≤ 1
      → p < length (pipes_of ins outs order) → q < length (pipes_of ins outs order)
      → node (pipe_at p) ≡ name → number (node (pipe_at p)) ≡ k → number (node (pipe_at q)) ≡ k
      → p ≡ q
  same_end node name k p q kl one pl ql e a b =
      let passes = λ (t : NodeName). is_same_node t name in
      same_counted (λ (r : Pipe). is_same_node (node r) name)
      (pipes_of ins outs order) one p q no_pipe pl ql
      (ap passes e ∙ same_self name)
      (ap passes (one_name k (node (pipe_at q)) (node (pipe_at p)) kl b a ∙ e) ∙ same_self name)

  same_source : (k p q : ℕ) → LeadsFromSource k p → LeadsFromSource k q → p ≡ q
  same_source k p q a b =
      let (i, il, ie) = a.kind.x_in in
      let c = source_once ins outs order apart i a.kind.x il in
      let one =
      subst
      (λ (y : End). count_by (λ (r : Pipe). is_same_node r.writer (SourceOf y.stage y.number))
      (pipes_of ins outs order) ≡ cond (not (is_fed outs y)) 1 0) ie c
      ∙ ap (λ t. cond (not t) 1 0) a.kind.unfed in
      let low = a.low in
      same_end (λ r. r.writer) (source_of a.kind.x) k p q (omega (arith, low))
      (omega (arith, one)) a.there b.there (ap (λ (r : Pipe). r.writer) a.kind.is) a.is b.is

  same_sink : (k p q : ℕ) → k < u + m + n → LeadsToSink k p → LeadsToSink k q → p ≡ q
  same_sink k p q low a b =
      let (i, il, ie) = a.kind.o_in in
      let c = sink_once ins outs order apart i a.kind.o il in
      let one =
      subst
      (λ (y : End). count_by (λ (r : Pipe). is_same_node r.reader (SinkOf y.stage y.number))
      (pipes_of ins outs order) ≡ cond (leaves y) 1 0) ie c
      ∙ ap (λ t. cond t 1 0) a.kind.leaves in
      same_end (λ r. r.reader) (sink_of a.kind.o) k p q low (omega (arith, one)) a.there b.there
      (ap (λ (r : Pipe). r.reader) a.kind.is) a.is b.is

  same_stage : (k p q : ℕ) → LeadsToStage k p → LeadsToStage k q → p ≡ q
  same_stage k p q a b =
      let ps = pipes_of ins outs order in
      let o = a.kind.o in
      let f = is_written_by o.stage o.number in
      let (i, il, ie) = a.kind.o_in in
      let c = branch_once ins outs order apart i o il in
      let one : count_by f ps ≤ 1 =
      subst (λ (y : End). count_by (is_written_by y.stage y.number) ps ≤ 1) ie c in
      let high = a.high in
      let pe : (pipe_at p).writer ≡ StageAt o.stage = ap (λ (r : Pipe). r.writer) a.kind.is in
      let pb : (pipe_at p).branch ≡ o.number = ap (λ (r : Pipe). r.branch) a.kind.is in
      let qb : (pipe_at q).branch ≡ b.kind.o.number = ap (λ (r : Pipe). r.branch) b.kind.is in
      let zero_p = main o a.kind.x a.kind.o_in a.kind.meets in
      let zero_q = main b.kind.o b.kind.x b.kind.o_in b.kind.meets in
      let same = one_name k (pipe_at q).writer (pipe_at p).writer (omega (arith, high)) b.is a.is in
      same_counted f ps one p q no_pipe a.there b.there (passes (pipe_at p) pe pb)
      (passes (pipe_at q) (same ∙ pe) (qb ∙ (zero_q ∙ sym zero_p)))
    where
      passes : (r : Pipe) → r.writer ≡ StageAt a.kind.o.stage → r.branch ≡ a.kind.o.number
          → is_written_by a.kind.o.stage a.kind.o.number r ≡ true
      passes r e h = and_from (is_same_node r.writer (StageAt a.kind.o.stage))
          (r.branch == a.kind.o.number)
          (ap (λ (t : NodeName). is_same_node t (StageAt a.kind.o.stage)) e
          ∙ same_self (StageAt a.kind.o.stage)) (eq-eqb r.branch a.kind.o.number h)

  -- a node has at most one pipe to later ones
  one_later : (k p q : ℕ) → k < u + m + n → LeadsLater g (spot u m n) k p
      → LeadsLater g (spot u m n) k q → p ≡ q
  one_later k p q kl x y = ⊎_elim
      (λ (a : LeadsFromSource k p). let al = a.low in ⊎_elim
      (λ (b : LeadsFromSource k q). same_source k p q a b)
      (λ rest. ⊎_elim
      (λ (b : LeadsToStage k q). let bl = b.low in absurd (omega (arith, al, bl)))
      (λ (b : LeadsToSink k q). let bl = b.high in absurd (omega (arith, al, bl))) rest)
      (led k q y))
      (λ more. ⊎_elim
      (λ (a : LeadsToStage k p). let al = a.low in let ah = a.high in ⊎_elim
      (λ (b : LeadsFromSource k q). let bl = b.low in absurd (omega (arith, al, bl)))
      (λ rest. ⊎_elim
      (λ (b : LeadsToStage k q). same_stage k p q a b)
      (λ (b : LeadsToSink k q). let bl = b.high in absurd (omega (arith, ah, bl))) rest)
      (led k q y))
      (λ (a : LeadsToSink k p). let al = a.high in ⊎_elim
      (λ (b : LeadsFromSource k q). let bl = b.low in absurd (omega (arith, al, bl)))
      (λ rest. ⊎_elim
      (λ (b : LeadsToStage k q). let bl = b.high in absurd (omega (arith, al, bl)))
      (λ (b : LeadsToSink k q). same_sink k p q kl a b) rest) (led k q y)) more)
      (led k p x)

  -- a node that has a pipe is one of the nodes
  node_within : (k p : ℕ) → LeadsLater g (spot u m n) k p → k < u + m + n
  node_within k p later =
      let c = names_long in
      ⊎_elim
      (λ w.
      let a = before_g ins outs order apart keyed ordered g long_g pipes_g p w.0.0 in
      let b = within_g ins outs order apart keyed ordered g long_g pipes_g p w.0.0 in
      let e = w.0.1 in
      omega (arith, a, b, c, e, long_g))
      (λ r.
      let b = within_g ins outs order apart keyed ordered g long_g pipes_g p r.0.0 in
      let e = r.0.1 in
      omega (arith, b, c, e, long_g))
      later

  pub forest : IsForest g
  forest =
      let c = names_long in
      let all : length g.nodes ≡ u + m + n = omega (arith, c, long_g) in
      record {
        place = spot u m n;
        within = λ k l. let w = spot_within u m n k (omega (arith, l, all)) in
            omega (arith, w, all);
        apart = λ j k jl kl e. spot_apart u m n j k (omega (arith, jl, all))
            (omega (arith, kl, all)) e;
        one_later = λ k p q x y. one_later k p q (node_within k p x) x y;
      }

-- ---- scripts

-- without FIFOs an operand is a file, which no input meets
file_operand : (s : Stage) (name : List ℕ) (i : Place)
    → meets_at (operand_place [] s name) i ≡ false
file_operand s name i = refl

no_operand : (s : Stage) (names : List (List ℕ)) (a : ℕ) (p : ℕ × Place) (i : Place)
    → Contains (enumerate_from a (map (operand_place [] s) names)) p → meets_at p.1 i ≡ true → ⊥
no_operand s [] a p i (k, l, e) h = absurd (omega arith)
no_operand s (name ∷ names) a p i (zero, l, e) h =
    false≢true (sym (file_operand s name i) ∙ (ap (λ (q : ℕ × Place). meets_at q.1 i) e ∙ h))
no_operand s (name ∷ names) a p i (suc k, l, e) h =
    no_operand s names (a + 1) p i (k, omega arith, e) h

-- so only standard output is read by another stage
main_place : (s : Stage) (p : ℕ × Place) (i : Place)
    → Contains (enumerate_from 0 (out_places [] s)) p → meets_at p.1 i ≡ true → p.0 ≡ 0
main_place s p i c h = go (writes_standard s.filter) c
  where
    go : (b : Bool)
        → Contains
        (enumerate_from 0 (cond b (standard_output [] s ∷ []) [] ++ map (operand_place [] s)
        (output_operands s.filter))) p → p.0 ≡ 0
    go true (zero, l, e) = ap (λ (q : ℕ × Place). q.0) (sym e)
    go true (suc k, l, e) =
        absurd (no_operand s (output_operands s.filter) 1 p i (k, omega arith, e) h)
    go false d = absurd (no_operand s (output_operands s.filter) 0 p i d h)

main_branch : (ss : List Stage) (o : End) (x : End) → Contains (out_ends [] ss) o → meets o x ≡ true
    → o.number ≡ 0
main_branch ss o x c h =
    let (s, sc, oc) = origin (ends_at (out_places [])) ss o c in
    let (p, pc, pe) = of_map (end_at s.index) (enumerate_from 0 (out_places [] s)) o oc in
    ap (λ (q : End). q.number) (sym pe)
    ∙ main_place s p x.place pc (ap (λ (q : End). meets_at q.place x.place) pe ∙ h)

pub scripts_without_fifos_have_forests : ScriptsWithoutFifosHaveForests
scripts_without_fifos_have_forests s plan is empty =
    let turn = stages_in_turn s is.ss is.means in
    let legal = subst (λ (fifos : List (List ℕ)). AreAbsent fifos is.ss the_faults) empty
    is.legal in
    let planned =
    subst (λ (fifos : List (List ℕ)). IsPlannedOrder (length is.ss)
    (joined fifos is.ss) is.order) empty is.planned in
    let ins = in_ends [] is.ss in
    let outs = out_ends [] is.ss in
    let nodes = nodes_of [] is.ss ins outs is.order in
    let long_g = length-map nodes graph_node ∙ nodes_counted [] is.ss is.order turn planned in
    let f = forest ins outs is.order
    (plan_apart [] is.ss turn legal (stages_read_once s is.ss is.means) is.order planned)
    (stages_keyed [] is.ss is.order turn planned)
    (stages_ordered [] is.ss is.order turn planned)
    (graph_of (plan_of [] is.ss (is_negated s.pipelines) is.order)) long_g refl
    (main_branch is.ss) in
    subst (λ (p : Planned). IsForest (graph_of p))
    (sym (is.is
    ∙ ap (λ (fifos : List (List ℕ)). plan_of fifos is.ss (is_negated s.pipelines) is.order)
    empty)) f

-- what is planned of such a script is a forest
pub planned_forest : (s : Script) (r : Result Planned PlanFault) → MeetsPlan s r → s.fifos ≡ []
    → IfOk r (λ plan. IsForest (graph_of plan))
planned_forest s (Ok plan) is empty = scripts_without_fifos_have_forests s plan is empty
planned_forest s (Err f) is empty = tt
