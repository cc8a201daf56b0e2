-- The node of a plan with a number.
use Rattle.std.proofs.Common.{◌≡◌, ℕ, ◌+◌, ◌<◌, ◌≤◌, ◌==◌, ◌⊎◌, Bool, true, false, not, List, []}
use Rattle.std.proofs.Common.{◌∷◌, ◌++◌, length, map, get_or, Option, Some, slice_get, refl, sym}
use Rattle.std.proofs.Common.{ap, ap₂, ◌∙◌, subst, inl, inr, ⊎_elim, arith}
use Rattle.std.specs.List.{All, Contains, filter, flat_map, position_or_len}
use Rattle.std.specs.Option.{option_to_list}
use Rattle.std.proofs.lemmas.List.Elements.{All-head, All-tail}
use Rattle.std.proofs.lemmas.Option.{slice_get-get_or, slice_get_within, get_or_from_slice_get}
use Rattle.std.proofs.lemmas.List.{length-append, length-map, get_or-map}
use Rattle.graphs.specs.Orders.{IsPlannedOrder}
use Rattle.planner.specs.declared.place.End.{End}
use Rattle.planner.specs.declared.plan.Node.{Node}
use Rattle.planner.specs.declared.plan.NodeName.{NodeName}
use Rattle.planner.specs.declared.plan.NodeName.TheVariants.{StageAt}
use Rattle.planner.specs.Places.{Stage}
use Rattle.planner.specs.Ends.{in_ends, out_ends, is_fed, leaves, unfed, leaving}
use Rattle.planner.specs.Laws.{AreInTurn}
use Rattle.planner.specs.Planned.{joined}
use Rattle.planner.specs.Tables.{source_of, sink_of, names_of, number_of, pipes_of, source_node}
use Rattle.planner.specs.Tables.{sink_node, stage_node, stage_at, nodes_of}
use Rattle.planner.proofs.lemmas.NumberLaws.{AreOrdered, AreKeyed, none, in_filter, number_at, long}
use Rattle.planner.proofs.lemmas.NumberLaws.{at_stage, at_source, at_sink, number_stage}
use Rattle.planner.proofs.lemmas.NumberLaws.{stage_within}
use Rattle.planner.proofs.lemmas.Parts.{front_of, behind, of_two, mapped_at, of_mapped, of_filter}
use Rattle.planner.proofs.lemmas.TurnLaws.{index_at}
use Rattle.planner.proofs.lemmas.RiseLaws.{stages_ordered, stages_keyed, order_within}
use Rattle.planner.proofs.lemmas.RiseLaws.{stages_counted}

-- the names of the nodes of a plan, and its nodes
abbrev pub names_in : List (List ℕ) → List Stage → List ℕ → List NodeName
names_in fifos ss order = names_of (in_ends fifos ss) (out_ends fifos ss) order

abbrev pub nodes_in : List (List ℕ) → List Stage → List ℕ → List Node
nodes_in fifos ss order = nodes_of fifos ss (in_ends fifos ss) (out_ends fifos ss) order

-- the node of a stage
abbrev pub node_of_stage : List (List ℕ) → List Stage → List ℕ → Stage → Node
node_of_stage fifos ss order s =
    stage_node fifos (pipes_of (in_ends fifos ss) (out_ends fifos ss) order) s

-- the node k is that of an end that passes a test
pub record IsEndNode (name : End → NodeName) (made : End → Node) (test : End
    → Bool) (ends : List End) (names : List NodeName) (k : ℕ) (n : Node) : Type 0 where
  pub x : End
  pub x_in : Contains ends x
  pub passes : test x ≡ true
  pub number : number_of names (name x) ≡ k
  pub is : made x ≡ n

-- it is the source of an input that no stage writes; a stage; the sink of a branch that leaves
abbrev pub is_unfed : List (List ℕ) → List Stage → End → Bool
is_unfed fifos ss x = not (is_fed (out_ends fifos ss) x)

abbrev pub IsSourceNode : List (List ℕ) → List Stage → List ℕ → ℕ → Node → Type 0
IsSourceNode fifos ss order k n = IsEndNode source_of source_node (is_unfed fifos ss)
    (in_ends fifos ss) (names_in fifos ss order) k n

pub record IsStageNode (fifos : List (List ℕ)) (ss : List Stage) (order : List ℕ) (k : ℕ)
    (n : Node) : Type 0 where
  pub s : Stage
  pub s_in : Contains ss s
  pub number : number_of (names_in fifos ss order) (StageAt s.index) ≡ k
  pub is : node_of_stage fifos ss order s ≡ n

abbrev pub IsSinkNode : List (List ℕ) → List Stage → List ℕ → ℕ → Node → Type 0
IsSinkNode fifos ss order k n = IsEndNode sink_of sink_node leaves (out_ends fifos ss)
    (names_in fifos ss order) k n

-- the stages of an order are those with its indices
stages_are : (ss : List Stage) (order : List ℕ) (d : Stage) → All (λ t. t < length ss) order
    → flat_map (stage_at ss) order ≡ map (λ t. get_or ss t d) order
stages_are ss [] d all = refl
stages_are ss (t ∷ order) d all =
    let l = All-head (λ t. t < length ss) t order all in
    let ih = stages_are ss order d (All-tail (λ t. t < length ss) t order all) in
    ap₂ (λ (o : Option Stage) (xs : List Stage). option_to_list o ++ xs)
    (slice_get-get_or ss t d l) ih

module _ (fifos : List (List ℕ)) (ss : List Stage) (turn : AreInTurn 0 ss) (order : List ℕ)
    (planned : IsPlannedOrder (length ss) (joined fifos ss) order) where
  abbrev ins : List End
  ins = in_ends fifos ss

  abbrev outs : List End
  outs = out_ends fifos ss

  keyed : AreKeyed ins outs
  keyed = stages_keyed fifos ss order turn planned

  ordered : AreOrdered ins outs order
  ordered = stages_ordered fifos ss order turn planned

  names_long : length (names_in fifos ss order) ≡ length (unfed ins outs) + length order + length
      (leaving outs)
  names_long = long ins outs order keyed ordered

  -- how many nodes come before the sinks
  before_sinks : length (map source_node (unfed ins outs) ++ map (node_of_stage fifos ss order)
      (flat_map (stage_at ss) order)) ≡ length (unfed ins outs) + length order
  before_sinks =
      let a = length-append (map source_node (unfed ins outs))
      (map (node_of_stage fifos ss order) (flat_map (stage_at ss) order)) in
      let b = length-map (unfed ins outs) source_node in
      let c = length-map (flat_map (stage_at ss) order) (node_of_stage fifos ss order) in
      let d = stages_counted ss order (order_within fifos ss order turn planned) in
      omega (arith, a, b, c, d)

  -- of the nodes from a number on, which are those of ends that pass a test
  module _ (name : End → NodeName) (made : End → Node) (test : End
      → Bool) (ends : List End) (first : ℕ)
      (few : first + length (filter test ends) ≤ length (names_in fifos ss order))
      (named : (j : ℕ) (x : End) → j < length (filter test ends)
      → get_or (names_in fifos ss order) (first + j) none
      ≡ name (get_or (filter test ends) j x)) where
    end_number : (j : ℕ) (x : End) → j < length (filter test ends)
        → get_or (filter test ends) j x ≡ x
        → number_of (names_in fifos ss order) (name x) ≡ first + j
    end_number j x l f = number_at ins outs order keyed ordered (first + j) (name x)
        (omega (arith, few, l)) (named j x l ∙ ap name f)

    end_kind : (j : ℕ) (n : Node) → slice_get (map made (filter test ends)) j ≡ Some n
        → IsEndNode name made test ends (names_in fifos ss order) (first + j) n
    end_kind j n e =
        let (x, xe, is) = of_mapped made (filter test ends) j n e in
        let l = slice_get_within (filter test ends) j x xe in
        let f = get_or_from_slice_get (filter test ends) j x x xe in
        let (c, w) = of_filter test ends x (j, l, f) in
        record { x = x; x_in = c; passes = w; number = end_number j x l f; is = is }

    end_holds : ((j : ℕ) (n : Node) → slice_get (map made (filter test ends)) j ≡ Some n
        → slice_get (nodes_in fifos ss order) (first + j) ≡ Some n) → (x : End) → Contains ends x
        → test x ≡ true
        → (slice_get (nodes_in fifos ss order) (number_of (names_in fifos ss order) (name x))
        ≡ Some (made x))
        × (number_of (names_in fifos ss order) (name x) < length (names_in fifos ss order))
    end_holds nodes x xc w =
        let (j, l, f) = in_filter test ends x xc w in
        let n = end_number j x l f in
        let here = mapped_at made (filter test ends) j x (slice_get-get_or (filter test ends) j x l
        ∙ ap Some f) in (
          ap (λ i. slice_get (nodes_in fifos ss order) i) n
              ∙ nodes j (made x) here,
          omega (arith, few, l, n),
        )

  source_named : (j : ℕ) (x : End) → j < length (unfed ins outs)
      → get_or (names_in fifos ss order) (0 + j) none ≡ source_of (get_or (unfed ins outs) j x)
  source_named j x l =
      let z : 0 + j ≡ j = omega arith in
      ap (λ i. get_or (names_in fifos ss order) i none) z
      ∙ at_source ins outs order keyed ordered j x l

  sink_named : (j : ℕ) (x : End) → j < length (leaving outs)
      → get_or (names_in fifos ss order) (length (unfed ins outs) + length order + j) none
      ≡ sink_of (get_or (leaving outs) j x)
  sink_named j x l = at_sink ins outs order keyed ordered j x l

  stage_kind : (j : ℕ) (n : Node)
      → slice_get (map (node_of_stage fifos ss order) (flat_map (stage_at ss) order)) j ≡ Some n
      → IsStageNode fifos ss order (length (unfed ins outs) + j) n
  stage_kind j n e =
      let fs = flat_map (stage_at ss) order in
      let (s, se, is) = of_mapped (node_of_stage fifos ss order) fs j n e in
      let all = order_within fifos ss order turn planned in
      let l = slice_get_within fs j s se in
      let c = stages_counted ss order all in
      let jl : j < length order = omega (arith, l, c) in
      let i : ℕ = get_or order j 0 in
      let at : get_or ss i s ≡ s =
      sym (ap (λ (xs : List Stage). get_or xs j s) (stages_are ss order s all)
      ∙ get_or-map (λ t. get_or ss t s) order j 0 s jl) ∙ get_or_from_slice_get fs j s s se in
      let turned = index_at 0 ss i s turn (all j 0 jl) in
      let index : i ≡ s.index = omega (arith, turned, ap (λ (t : Stage). t.index) at) in
      record {
        s = s;
        s_in = (i, all j 0 jl, at);
        number = number_at ins outs order keyed ordered (length (unfed ins outs) + j)
            (StageAt s.index) (omega (arith, names_long, jl))
            (at_stage ins outs order keyed ordered j jl ∙ ap StageAt index);
        is = is;
      }

  -- each node is of one of these kinds
  pub node_kinds : (k : ℕ) (n : Node) → slice_get (nodes_in fifos ss order) k ≡ Some n
      → IsSourceNode fifos ss order k n
      ⊎ (IsStageNode fifos ss order k n ⊎ IsSinkNode fifos ss order k n)
  node_kinds k n e =
      let us = map source_node (unfed ins outs) in
      let ts = map (node_of_stage fifos ss order) (flat_map (stage_at ss) order) in
      let os = map sink_node (leaving outs) in
      let first : ℕ = length (unfed ins outs) + length order in
      ⊎_elim
      (λ (h : slice_get (us ++ ts) k ≡ Some n). ⊎_elim
      (λ a. inl (subst (λ i. IsSourceNode fifos ss order i n) (omega arith)
      (end_kind source_of source_node (is_unfed fifos ss) ins 0
      (omega (arith, names_long)) source_named k n a)))
      (λ r. let (j, a, b) = r in let m = length-map (unfed ins outs) source_node in
      inr
      (inl (subst (λ i. IsStageNode fifos ss order i n) (omega (arith, a, m))
      (stage_kind j n b)))) (of_two us ts k n h))
      (λ r. let (j, a, b) = r in let m = before_sinks in
      inr
      (inr (subst (λ i. IsSinkNode fifos ss order i n) (omega (arith, a, m))
      (end_kind sink_of sink_node leaves outs first
      (omega (arith, names_long)) sink_named j n b))))
      (of_two (us ++ ts) os k n e)

  -- the source of an input that no stage writes, and the sink of a branch that leaves, are nodes
  pub source_holds : (x : End) → Contains ins x → is_fed outs x ≡ false
      → (slice_get (nodes_in fifos ss order) (number_of (names_in fifos ss order) (source_of x))
      ≡ Some (source_node x))
      × (number_of (names_in fifos ss order) (source_of x) < length (names_in fifos ss order))
  source_holds x xc e =
      let us = map source_node (unfed ins outs) in
      let ts = map (node_of_stage fifos ss order) (flat_map (stage_at ss) order) in
      let os = map sink_node (leaving outs) in
      end_holds source_of source_node (is_unfed fifos ss) ins 0
      (omega (arith, names_long)) source_named (λ j n h.
      let z : 0 + j ≡ j = omega arith in
      ap (λ i. slice_get (nodes_in fifos ss order) i) z
      ∙ front_of (us ++ ts) os j n (front_of us ts j n h)) x xc (ap not e)

  pub sink_holds : (x : End) → Contains outs x → leaves x ≡ true
      → (slice_get (nodes_in fifos ss order) (number_of (names_in fifos ss order) (sink_of x))
      ≡ Some (sink_node x))
      × (number_of (names_in fifos ss order) (sink_of x) < length (names_in fifos ss order))
  sink_holds x xc e =
      let us = map source_node (unfed ins outs) in
      let ts = map (node_of_stage fifos ss order) (flat_map (stage_at ss) order) in
      let os = map sink_node (leaving outs) in
      let first : ℕ = length (unfed ins outs) + length order in
      end_holds sink_of sink_node leaves outs first (omega (arith, names_long)) sink_named
      (λ j n h. ap (λ i. slice_get (nodes_in fifos ss order) (i + j)) (sym before_sinks)
      ∙ (behind (us ++ ts) os j ∙ h)) x xc e

  -- a stage is a node
  pub stage_holds : (t : ℕ) → t < length ss → (s : Stage)
      × (slice_get (nodes_in fifos ss order) (number_of (names_in fifos ss order) (StageAt t))
      ≡ Some (node_of_stage fifos ss order s))
  stage_holds t l =
      let us = map source_node (unfed ins outs) in
      let fs = flat_map (stage_at ss) order in
      let ts = map (node_of_stage fifos ss order) fs in
      let os = map sink_node (leaving outs) in
      let p = position_or_len (λ i. i == t) order in
      let c = planned.all t l in
      let n = number_stage ins outs order keyed ordered t c in
      let w = stage_within ins outs order keyed ordered t c in
      let a = length-map (unfed ins outs) source_node in
      let d = stages_counted ss order (order_within fifos ss order turn planned) in
      let within : p < length fs = omega (arith, w, d) in
      let (s, se) = some_at fs p within in
      let m : number_of (names_in fifos ss order) (StageAt t) ≡ length us + p =
      omega (arith, n, a) in
      let here = behind us ts p ∙ mapped_at (node_of_stage fifos ss order) fs p s se in (
        s,
        ap (λ i. slice_get (nodes_in fifos ss order) i) m
            ∙ front_of (us ++ ts) os (length us + p) (node_of_stage fifos ss order s) here,
      )
    where
      some_at : (xs : List Stage) (i : ℕ) → i < length xs → (s : Stage) × (slice_get xs i ≡ Some s)
      some_at [] i h = absurd (omega arith)
      some_at (x ∷ xs) i h = (get_or (x ∷ xs) i x, slice_get-get_or (x ∷ xs) i x h)
