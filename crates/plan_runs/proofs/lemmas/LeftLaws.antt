-- What the sources of a plan have to give once parts were left out, and what their files held.
use Rattle.std.proofs.Common.{◌≡◌, ℕ, zero, suc, ◌≤◌, ◌⊎◌, inl, inr, Bool, true, false, List, []}
use Rattle.std.proofs.Common.{◌∷◌, ◌++◌, leb, cond, length, Option, Some, None, unwrap_or, refl, sym, ap, ◌∙◌, subst}
use Rattle.std.proofs.Common.{length-append, arith}
use Rattle.std.specs.List.{filter_map, join_with_byte, zip}
use Rattle.std.specs.Prelude.{slice_get, slice_index_or, is_none, option_map, ◌&&◌}
use Rattle.std.proofs.lemmas.Option.{slice_get-map, slice_get-get_or, same_Some, none-some}
use Rattle.collector.specs.InputEnds.{IsLeftOf, HasNeeded}
use Rattle.collector.specs.declared.needed.NeededEnd.{NeededEnd}
use Rattle.collector.specs.declared.needed.NeededEnd.TheVariants as needs
use Rattle.commands.specs.Filters.{filter_whole}
use Rattle.commands.specs.Head.{head_of, head_whole, header, under_header}
use Rattle.commands.specs.Tail.{tail_whole}
use Rattle.machine.specs.FrontLines.{first_lines}
use Rattle.machine.specs.Lines.{newline}
use Rattle.machine.proofs.FrontLaws.{first_again, first_fits}
use Rattle.commands.specs.declared.spec.FilterSpec.{FilterSpec}
use Rattle.commands.specs.declared.spec.FilterSpec.TheVariants as spec
use Rattle.commands.specs.declared.tail_words.Counted.{Counted}
use Rattle.commands.specs.declared.tail_words.Counted.TheVariants as counted
use Rattle.commands.specs.declared.tail_words.Origin.{Origin}
use Rattle.commands.specs.declared.tail_words.Origin.TheVariants as origin
use Rattle.graphs.specs.Graph.{Graph, GraphNode, IsPlan, IsPipe, Reads, Sink, Source, Stage}
use Rattle.graphs.specs.Graph.{node_at, writer}
use Rattle.line_filters.specs.TailNeeds.{IsEnough}
use Rattle.line_filters.proofs.EndLaws.{tails_need_an_end}
use Rattle.openings.specs.Needs.{end_by, end_for, front_for, IsEndLeft, IsFrontLeft, NeedsOnly}
use Rattle.openings.specs.Needs.{TakesFirst}
use Rattle.planner.specs.Planned.{Planned, graph_node, graph_of}
use Rattle.planner.specs.declared.plan.Node.{Node}
use Rattle.planner.specs.declared.plan.Node.TheVariants as node
use Rattle.network_laws.specs.Alike.{AreAlike, IsReadAlike, HaveOneAnswer}
use Rattle.network_laws.specs.Bounds.{most_events_below}
use Rattle.network_laws.specs.Sequential.{Contents, answer, answer_status, is_source, output_of}
use Rattle.network_laws.proofs.AlikeLaws.{alike_contents}
use Rattle.network_laws.proofs.AnswerLaws.{answers_are_outputs}
use Rattle.plan_runs.specs.Rounds.{plan_rounds}

-- ---- a filter that needs only an end

-- such an end is enough for tail
is_enough : (front left : List ℕ) (n : ℕ) (c : Counted) (e : NeededEnd)
    → end_by origin.End c n ≡ Some e
    → (front ≡ []) ⊎ HasNeeded e front left → IsEnough c n front left
is_enough front left n counted.Lines e is h =
    subst (λ (d : NeededEnd). (front ≡ []) ⊎ HasNeeded d front left)
    (sym (same_Some (needs.Lines n) e is)) h
is_enough front left n counted.Bytes e is h =
    subst (λ (d : NeededEnd). (front ≡ []) ⊎ HasNeeded d front left)
    (sym (same_Some (needs.Bytes n) e is)) h

tail_alike : (o : Origin) (c : Counted) (n : ℕ) (e : NeededEnd) (whole left : List ℕ)
    → end_by o c n ≡ Some e → IsLeftOf e whole left
    → tail_whole c o n (Some whole ∷ []) ≡ tail_whole c o n (Some left ∷ [])
tail_alike origin.Beginning c n e whole left is h = absurd (none-some e is)
tail_alike origin.End c n e whole left is h =
    ap (λ (w : List ℕ). tail_whole c origin.End n (Some w ∷ [])) h.1
    ∙ tails_need_an_end c n h.0 left (is_enough h.0 left n c e is h.2)

-- it makes the same of what is left
filter_alike : (f : FilterSpec) (e : NeededEnd) (whole left : List ℕ) → end_for f ≡ Some e
    → IsLeftOf e whole left
    → filter_whole f (Some whole ∷ []) ≡ filter_whole f (Some left ∷ [])
filter_alike (spec.Tail s) e whole left is h =
    tail_alike s.origin s.counted s.count e whole left is h
filter_alike (spec.Cat s) e whole left is h = absurd (none-some e is)
filter_alike (spec.Cut s) e whole left is h = absurd (none-some e is)
filter_alike (spec.Fold s) e whole left is h = absurd (none-some e is)
filter_alike (spec.Head s) e whole left is h = absurd (none-some e is)
filter_alike (spec.Paste s) e whole left is h = absurd (none-some e is)
filter_alike (spec.Tee s) e whole left is h = absurd (none-some e is)
filter_alike (spec.Tr s) e whole left is h = absurd (none-some e is)
filter_alike (spec.Uniq s) e whole left is h = absurd (none-some e is)
filter_alike (spec.Wc s) e whole left is h = absurd (none-some e is)

-- ---- a plan, what its sources hold, and what is left of it

pair_of : (x : ℕ × ℕ) (a b : ℕ) → x.0 ≡ a → x.1 ≡ b → x ≡ (a, b)
pair_of (u, v) a b e f = ap (λ (y : ℕ). (y, v)) e ∙ ap (λ (y : ℕ). (a, y)) f

-- a node is a stage that reads this pipe alone, and makes the same of what is left
abbrev pub MakesSame : ℕ → List ℕ → List ℕ → Node → Type 0
MakesSame p whole rest (node.Stage number f inputs branches) = (inputs ≡ p ∷ [])
    × (filter_whole f (Some whole ∷ []) ≡ filter_whole f (Some rest ∷ []))
MakesSame p whole rest _ = ⊥

-- a part of what the source k held was left out, and each reader makes the same of the rest
pub record IsCut (plan : Planned) (content left : Option (List ℕ)) (k : ℕ) : Type 0 where
  pub whole : List ℕ
  pub rest : List ℕ
  pub given : content ≡ Some whole
  pub kept : left ≡ Some rest
  pub fits : length rest ≤ length whole
  pub same : (p reader : ℕ) → slice_get plan.pipes p ≡ Some (k, reader)
      → (n : Node) × (slice_get plan.nodes reader ≡ Some n) × MakesSame p whole rest n

-- ---- an end

end_same : (n : Node) (p : ℕ) (e : NeededEnd) (whole rest : List ℕ) → NeedsOnly e p n
    → IsLeftOf e whole rest → MakesSame p whole rest n
end_same (node.Stage number f inputs branches) p e whole rest need h =
    (need.0, filter_alike f e whole rest need.1 h)
end_same (node.Source name) p e whole rest need h = need
end_same (node.Sink name) p e whole rest need h = need

end_fits : (e : NeededEnd) (whole rest : List ℕ) → IsLeftOf e whole rest → length rest ≤ length whole
end_fits e whole rest h = let long = length-append h.0 rest in omega (arith, ap length h.1, long)

pub cut_of_end : (plan : Planned) (content left : Option (List ℕ)) (k : ℕ) (whole rest : List ℕ)
    → content ≡ Some whole → left ≡ Some rest → IsEndLeft plan k whole rest
    → IsCut plan content left k
cut_of_end plan content left k whole rest given kept h = record {
  whole = whole;
  rest = rest;
  given = given;
  kept = kept;
  fits = end_fits h.needed whole rest h.left_of;
  same = λ p reader joins.
      let r = h.only p reader joins in
      (r.0, r.1, end_same r.0 p h.needed whole rest r.2 h.left_of);
}

-- ---- the first lines

head_alike : (n : ℕ) (names : List (List ℕ)) (x y : List ℕ) → head_of n x ≡ head_of n y
    → head_whole n names (Some x ∷ []) ≡ head_whole n names (Some y ∷ [])
head_alike n [] x y e = ap (λ (z : List ℕ). record { out = z ++ []; count = 0 }) e
head_alike n (name ∷ names) x y e =
    ap
    (λ (z : List ℕ). record {
      out = cond (leb 2 (length (name ∷ names)))
          (join_with_byte newline
          ((header name ++ z) ∷ filter_map (under_header n) (zip names []))) (z ++ []);
      count = 0;
    }) e

head_same : (f : FilterSpec) (n : ℕ) (whole : List ℕ) → front_for f ≡ Some n
    → filter_whole f (Some whole ∷ []) ≡ filter_whole f (Some (first_lines n whole) ∷ [])
head_same (spec.Head s) n whole is =
    let e = same_Some s.count n is in
    head_alike s.count s.inputs whole (first_lines n whole)
    (sym (first_again s.count whole) ∙ ap (λ (m : ℕ). head_of s.count (first_lines m whole)) e)
head_same (spec.Tail s) n whole is = absurd (none-some n is)
head_same (spec.Cat s) n whole is = absurd (none-some n is)
head_same (spec.Cut s) n whole is = absurd (none-some n is)
head_same (spec.Fold s) n whole is = absurd (none-some n is)
head_same (spec.Paste s) n whole is = absurd (none-some n is)
head_same (spec.Tee s) n whole is = absurd (none-some n is)
head_same (spec.Tr s) n whole is = absurd (none-some n is)
head_same (spec.Uniq s) n whole is = absurd (none-some n is)
head_same (spec.Wc s) n whole is = absurd (none-some n is)

front_same : (m : Node) (n p q : ℕ) (whole : List ℕ) → q ≡ p → TakesFirst n p m
    → MakesSame q whole (first_lines n whole) m
front_same (node.Stage number f inputs branches) n p q whole e takes = (
  takes.0 ∙ ap (λ (i : ℕ). i ∷ []) (sym e),
  head_same f n whole takes.1,
)
front_same (node.Source name) n p q whole e takes = takes
front_same (node.Sink name) n p q whole e takes = takes

pub cut_of_front : (plan : Planned) (content left : Option (List ℕ)) (k : ℕ) (whole rest : List ℕ)
    → content ≡ Some whole → left ≡ Some rest → IsFrontLeft plan k whole rest
    → IsCut plan content left k
cut_of_front plan content left k whole rest given kept h =
    subst (λ (r : List ℕ). left ≡ Some r → IsCut plan content left k) (sym h.first)
    (λ kept_first. record {
      whole = whole;
      rest = first_lines h.lines whole;
      given = given;
      kept = kept_first;
      fits = first_fits h.lines whole;
      same = λ p reader joins.
          let r = h.read in
          let e = r.single p reader joins in (
            r.head,
            ap (slice_get plan.nodes)
                (ap (λ (x : ℕ × ℕ). x.1) (same_Some (k, reader) (k, r.reader)
                (sym joins ∙ (ap (slice_get plan.pipes) e ∙ r.reads))))
                ∙ r.head_at,
            front_same r.head h.lines r.pipe p whole e r.takes,
          );
    }) kept

-- each source has what it held, or a part of that was left out
abbrev pub AreShortened : Planned → Contents → Contents → Type 0
AreShortened plan contents left = (k : ℕ) → (left k ≡ contents k)
    ⊎ IsCut plan (contents k) (left k) k

module _ (plan : Planned) (contents left : Contents) (is_plan : IsPlan (graph_of plan))
    (short : AreShortened plan contents left) where
  abbrev g : Graph
  g = graph_of plan

  -- the ends of a pipe
  joined : (p j k : ℕ) → Reads g j p → writer g p ≡ k → slice_get plan.pipes p ≡ Some (k, j)
  joined p j k reads is = slice_get-get_or plan.pipes p (0, 0) reads.0
      ∙ ap Some (pair_of (slice_index_or plan.pipes p (0, 0)) k j is reads.1)

  -- what a stage is in the graph
  abbrev ReadsAlike : ℕ → List ℕ → List ℕ → GraphNode → Type 0
  ReadsAlike p whole rest (Stage filter inputs branches) = (inputs ≡ p ∷ [])
      × (filter (Some whole ∷ []) ≡ filter (Some rest ∷ []))
  ReadsAlike p whole rest _ = Unit {0}

  node_alike : (n : Node) (p : ℕ) (whole rest : List ℕ) → MakesSame p whole rest n
      → ReadsAlike p whole rest (graph_node n)
  node_alike (node.Stage number f inputs branches) p whole rest same = same
  node_alike (node.Source name) p whole rest same = tt
  node_alike (node.Sink name) p whole rest same = tt

  -- a node of the graph is that of the plan
  of_plan : (j : ℕ) (n : Node) (m : GraphNode) → slice_get plan.nodes j ≡ Some n
      → node_at g j ≡ Some m → graph_node n ≡ m
  of_plan j n m there at = same_Some (graph_node n) m
      (sym (slice_get-map graph_node plan.nodes j ∙ ap (option_map graph_node) there) ∙ at)

  read_alike : (k : ℕ) → (s : IsCut plan (contents k) (left k) k) → IsReadAlike g s.whole s.rest k
  read_alike k s j p filter inputs branches at among is =
      let wired = is_plan.wired j (Stage filter inputs branches) at in
      let ins = wired.0 in
      let each = ins.each p in
      let r = s.same p j (joined p j k (each.1 among) is) in
      subst (ReadsAlike p s.whole s.rest) (of_plan j r.0 (Stage filter inputs branches) r.1 at)
      (node_alike r.0 p s.whole s.rest r.2)

  missing_alike : (k : ℕ) → is_none (left k) ≡ is_none (contents k)
  missing_alike k = elim (short k) as (λ _. is_none (left k) ≡ is_none (contents k)) [
    | inl e ↦ ap is_none e
    | inr s ↦ ap is_none s.kept ∙ sym (ap is_none s.given)
  ]

  alike : AreAlike g contents left
  alike = record {
    missing = λ k. ap (λ (b : Bool). is_source (node_at g k) && b) (missing_alike k);
    alike = λ k is. elim (short k) as (λ _. (left k ≡ contents k)
        ⊎ IsReadAlike g (unwrap_or (contents k) []) (unwrap_or (left k) []) k) [
          | inl e ↦ inl e
          | inr s ↦
              inr
              (subst (λ (c : Option (List ℕ)). IsReadAlike g (unwrap_or c []) (unwrap_or (left k) []) k)
              (sym s.given)
              (subst (λ (c : Option (List ℕ)). IsReadAlike g s.whole (unwrap_or c []) k) (sym s.kept)
              (read_alike k s)))
        ];
  }

  one : HaveOneAnswer g contents left
  one = alike_contents g contents left alike

  -- the exit status is the same
  pub same_status : answer_status g left ≡ answer_status g contents
  same_status = one.status

  sink_is_none : (n : Node) (p : ℕ) (whole rest : List ℕ) → MakesSame p whole rest n
      → graph_node n ≡ Sink → ⊥
  sink_is_none (node.Stage number f inputs branches) p whole rest same is = cc is
  sink_is_none (node.Source name) p whole rest same is = same
  sink_is_none (node.Sink name) p whole rest same is = same

  -- no sink reads an input of which a part was left out, so each output is the same
  pub same_output : (k p : ℕ) → node_at g k ≡ Some Sink → Reads g k p
      → answer g left p ≡ answer g contents p
  same_output k p at reads = elim (short (writer g p)) as
      (λ _. answer g left p ≡ answer g contents p) [
        | inl e ↦ one.pipes p (inr e)
        | inr s ↦ let r = s.same p k (joined p k (writer g p) reads refl) in
            absurd (sink_is_none r.0 p s.whole s.rest r.2 (of_plan k r.0 Sink r.1 at))
      ]

  -- ---- no pipe carries more

  output_fits : (p : ℕ) → IsPipe g p
      → (s : IsCut plan (contents (writer g p)) (left (writer g p)) (writer g p))
      → (n : Option GraphNode) → node_at g (writer g p) ≡ n
      → length (answer g left p) ≤ length (answer g contents p)
  output_fits p there s (Some (Source false)) at =
      let w = writer g p in
      let of_left : answer g left p ≡ s.rest =
      answers_are_outputs g left is_plan p there
      ∙ (ap (output_of g left (answer g left) w) at
      ∙ ap (λ (c : Option (List ℕ)). unwrap_or c []) s.kept) in
      let of_whole : answer g contents p ≡ s.whole =
      answers_are_outputs g contents is_plan p there
      ∙ (ap (output_of g contents (answer g contents) w) at
      ∙ ap (λ (c : Option (List ℕ)). unwrap_or c []) s.given) in
      let fits = s.fits in
      omega (arith, ap length of_left, ap length of_whole, fits)
  output_fits p there s (Some (Source true)) at =
      let e = one.pipes p (inl (ap is_source at)) in
      omega (arith, ap length e)
  output_fits p there s (Some (Stage f inputs branches)) at =
      let e = one.pipes p (inl (ap is_source at)) in
      omega (arith, ap length e)
  output_fits p there s (Some Sink) at =
      let e = one.pipes p (inl (ap is_source at)) in
      omega (arith, ap length e)
  output_fits p there s None at =
      let e = one.pipes p (inl (ap is_source at)) in
      omega (arith, ap length e)

  pipe_fits : (p : ℕ) → IsPipe g p → length (answer g left p) ≤ length (answer g contents p)
  pipe_fits p there = elim (short (writer g p)) as
      (λ _. length (answer g left p) ≤ length (answer g contents p)) [
        | inl e ↦ let same = one.pipes p (inr e) in omega (arith, ap length same)
        | inr s ↦ output_fits p there s (node_at g (writer g p)) refl
      ]

  events_fit : (n : ℕ) → n ≤ length plan.pipes
      → most_events_below n g left ≤ most_events_below n g contents
  events_fit zero le = omega arith
  events_fit (suc n) le =
      let rest = events_fit n (omega (arith, le)) in
      let here = pipe_fits n (omega (arith, le)) in
      omega (arith, rest, here)

  -- so a run has no more rounds
  pub rounds_fit : plan_rounds plan left ≤ plan_rounds plan contents
  rounds_fit = let events = events_fit (length plan.pipes) (omega arith) in omega (arith, events)
