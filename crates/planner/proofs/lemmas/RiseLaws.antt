-- The writer of each pipe of a plan comes before its reader, and both are nodes.
use Rattle.std.proofs.Common.{◌≡◌, ℕ, ◌<◌, true, List, [], ◌∷◌, ◌++◌, length, map, get_or, Option}
use Rattle.std.proofs.Common.{refl, ap, ◌∙◌, arith}
use Rattle.std.specs.List.{All, Contains, filter, flat_map}
use Rattle.std.specs.Option.{option_to_list}
use Rattle.std.proofs.lemmas.List.{get_or_default, length-map, length-append}
use Rattle.std.proofs.lemmas.List.Elements.{All-map, All-filter, All-contains, All-contains_itself}
use Rattle.std.proofs.lemmas.List.Elements.{All-tail, All-head, Contains-get_or}
use Rattle.std.proofs.lemmas.Option.{slice_get-get_or}
use Rattle.graphs.specs.Orders.{Joins, IsPlannedOrder}
use Rattle.planner.specs.declared.place.Place.{Place}
use Rattle.planner.specs.declared.place.End.{End}
use Rattle.planner.specs.Places.{Stage, in_places, out_places}
use Rattle.planner.specs.Ends.{meets, pairs_of, stage_pipes, all_ends, in_ends, out_ends, unfed}
use Rattle.planner.specs.Ends.{leaving}
use Rattle.planner.specs.Faults.{AreAbsent, the_faults}
use Rattle.planner.specs.Tables.{names_of, nodes_of, pipes_of, ends_of, source_node, sink_node}
use Rattle.planner.specs.Tables.{stage_node, stage_at}
use Rattle.planner.specs.Planned.{joined}
use Rattle.planner.specs.Laws.{AreInTurn}
use Rattle.planner.proofs.lemmas.TurnLaws.{at_index}
use Rattle.planner.proofs.lemmas.Members.{origin, in_flat_map, in_map, of_map, end_stage}
use Rattle.planner.proofs.lemmas.StageLaws.{occurs_once, occurs_before}
use Rattle.planner.proofs.lemmas.EachOnce.{ends_at_most}
use Rattle.planner.proofs.lemmas.SortLaws.{kinds}
use Rattle.planner.proofs.lemmas.NumberLaws.{AreOrdered, AreKeyed, in_filter, in_order, long}

-- a pair that is in the list of pipes joins its two
joins_of : (pipes : List (ℕ × ℕ)) (s t : ℕ) → Contains pipes (s, t) → Joins pipes s t
joins_of pipes s t (k, l, e) =
    let f : ◌≡◌ {A = ℕ × ℕ} (get_or pipes k (0, 0)) (s, t) = get_or_default pipes k (0, 0) (s, t) l
    ∙ e in
    (k, l, ap (λ (p : ℕ × ℕ). p.0) f, ap (λ (p : ℕ × ℕ). p.1) f)

-- a branch and an input that meet join their stages
pub meeting_joins : (ins outs : List End) (o : End) (x : End) → Contains outs o → Contains ins x
    → meets o x ≡ true → Joins (stage_pipes ins outs) o.stage x.stage
meeting_joins ins outs o x oc xc m =
    let pair : End → ℕ × ℕ = λ (i : End). (o.stage, i.stage) in
    joins_of (stage_pipes ins outs) o.stage x.stage
    (in_flat_map (pairs_of ins) outs o (o.stage, x.stage) oc
    (in_map pair (filter (meets o) ins) x (in_filter (meets o) ins x xc m)))

module _ (fifos : List (List ℕ)) (ss : List Stage) (order : List ℕ) (turn : AreInTurn 0 ss)
    (planned : IsPlannedOrder (length ss) (joined fifos ss) order) where
  -- an end is of a stage
  pub end_within : (places : Stage → List Place) (x : End) → Contains (all_ends places ss) x
      → x.stage < length ss
  end_within places x c =
      let (s, sc, e, l) = end_stage places ss x c in
      let b = (at_index ss s s turn sc).0 in
      omega (arith, e, b)

  -- a pipe leads to a stage
  pub joined_within : (s t : ℕ) → Joins (joined fifos ss) s t → t < length ss
  joined_within s t (i, l, a, b) =
      let ins = in_ends fifos ss in
      let outs = out_ends fifos ss in
      let p : ℕ × ℕ = get_or (joined fifos ss) i (0, 0) in
      let (o, oc, pc) = origin (pairs_of ins) outs p
      (Contains-get_or (joined fifos ss) i (0, 0) l) in
      let pair : End → ℕ × ℕ = λ (x : End). (o.stage, x.stage) in
      let (x, xc, e) = of_map pair (filter (meets o) ins) p pc in
      let w = end_within (in_places fifos) x
      (All-contains (Contains ins) (filter (meets o) ins) x
      (All-filter (meets o) (Contains ins) ins (All-contains_itself ins)) xc) in
      let g : x.stage ≡ p.1 = ap (λ (q : ℕ × ℕ). q.1) e in
      omega (arith, w, g, b)

  -- what the wiring asks of the order
  pub stages_ordered : AreOrdered (in_ends fifos ss) (out_ends fifos ss) order
  stages_ordered = record {
    once = occurs_once (length ss) (joined fifos ss) order planned;
    inputs = λ x c. planned.all x.stage (end_within (in_places fifos) x c);
    branches = λ o c. planned.all o.stage (end_within (out_places fifos) o c);
    before = λ o x oc xc m. occurs_before (length ss)
        (joined fifos ss) order planned joined_within o.stage x.stage
        (meeting_joins (in_ends fifos ss) (out_ends fifos ss) o x oc xc m);
  }

  -- and of the inputs and the branches
  pub stages_keyed : AreKeyed (in_ends fifos ss) (out_ends fifos ss)
  stages_keyed = record {
    inputs = ends_at_most (in_places fifos) ss turn;
    branches =
        ends_at_most (out_places fifos) ss turn;
  }

  -- each place of the order is a stage's
  pub order_within : All (λ t. t < length ss) order
  order_within p d l =
      let w = (planned.each p l).ready.within in
      let e = get_or_default order p d 0 l in
      omega (arith, w, e)

stage_at_one : (ss : List Stage) (k : ℕ) → k < length ss → length (stage_at ss k) ≡ 1
stage_at_one [] k l = absurd (omega arith)
stage_at_one (s ∷ ss) k l = ap (λ (o : Option Stage). length (option_to_list o))
    (slice_get-get_or (s ∷ ss) k s l)

-- an order has as many stages as indices
pub stages_counted : (ss : List Stage) (order : List ℕ) → All (λ t. t < length ss) order
    → length (flat_map (stage_at ss) order) ≡ length order
stages_counted ss [] all = refl
stages_counted ss (t ∷ order) all =
    let a = length-append (stage_at ss t) (flat_map (stage_at ss) order) in
    let b = stage_at_one ss t (All-head (λ t. t < length ss) t order all) in
    let ih = stages_counted ss order (All-tail (λ t. t < length ss) t order all) in
    omega (arith, a, b, ih)

-- there are as many nodes as names
pub nodes_counted : (fifos : List (List ℕ)) (ss : List Stage) (order : List ℕ) → AreInTurn 0 ss
    → IsPlannedOrder (length ss) (joined fifos ss) order
    → length (nodes_of fifos ss (in_ends fifos ss) (out_ends fifos ss) order)
    ≡ length (names_of (in_ends fifos ss) (out_ends fifos ss) order)
nodes_counted fifos ss order turn planned =
    let ins = in_ends fifos ss in
    let outs = out_ends fifos ss in
    let us = map source_node (unfed ins outs) in
    let node = stage_node fifos (pipes_of ins outs order) in
    let ts = map node (flat_map (stage_at ss) order) in
    let os = map sink_node (leaving outs) in
    let a = length-append (us ++ ts) os in
    let b = length-append us ts in
    let c = length-map (unfed ins outs) source_node in
    let d = length-map (flat_map (stage_at ss) order) node in
    let e = length-map (leaving outs) sink_node in
    let f = stages_counted ss order (order_within fifos ss order turn planned) in
    let g = long ins outs order (stages_keyed fifos ss order turn planned)
    (stages_ordered fifos ss order turn planned) in
    omega (arith, a, b, c, d, e, f, g)

-- the writer of each pipe comes before its reader, which is a node
pub pipes_rise_of : (fifos : List (List ℕ)) (ss : List Stage) (order : List ℕ) → AreInTurn 0 ss
    → IsPlannedOrder (length ss) (joined fifos ss) order
    → All (λ (e : ℕ × ℕ). (e.0 < e.1)
    × (e.1 < length (nodes_of fifos ss (in_ends fifos ss) (out_ends fifos ss) order)))
    (map (ends_of (names_of (in_ends fifos ss) (out_ends fifos ss) order))
    (pipes_of (in_ends fifos ss) (out_ends fifos ss) order))
pipes_rise_of fifos ss order turn planned =
    let ins = in_ends fifos ss in
    let outs = out_ends fifos ss in
    let names = names_of ins outs order in
    let P : ℕ × ℕ → Type 0 = λ e. (e.0 < e.1) × (e.1 < length (nodes_of fifos ss ins outs order)) in
    let n = nodes_counted fifos ss order turn planned in
    All-map P (ends_of names) (pipes_of ins outs order) (λ k d l.
    let o = in_order ins outs order (stages_keyed fifos ss order turn planned)
    (stages_ordered fifos ss order turn planned) (get_or (pipes_of ins outs order) k d)
    (kinds ins outs order k d l) in
    (o.0, let w = o.1 in omega (arith, w, n)))

-- the same of a script that has no fault
pub pipes_rise : (fifos : List (List ℕ)) (ss : List Stage) (order : List ℕ) → AreInTurn 0 ss
    → AreAbsent fifos ss the_faults → IsPlannedOrder (length ss) (joined fifos ss) order
    → All (λ (e : ℕ × ℕ). (e.0 < e.1)
    × (e.1 < length (nodes_of fifos ss (in_ends fifos ss) (out_ends fifos ss) order)))
    (map (ends_of (names_of (in_ends fifos ss) (out_ends fifos ss) order))
    (pipes_of (in_ends fifos ss) (out_ends fifos ss) order))
pipes_rise fifos ss order turn absent planned = pipes_rise_of fifos ss order turn planned
