-- The plan of a script is a plan of a graph, and a script has at most one.
use Rattle.std.proofs.Common.{◌≡◌, ℕ, suc, ◌+◌, ◌-◌, ◌<◌, Bool, true, false, List, [], ◌∷◌, length}
use Rattle.std.proofs.Common.{Option, Some, None, refl, sym, ap, ◌∙◌, subst, ⊎_elim, arith}
use Rattle.std.specs.List.{All, Contains}
use Rattle.std.proofs.lemmas.Bool.{not-true}
use Rattle.std.proofs.lemmas.Option.{same_Some, slice_get_within}
use Rattle.std.proofs.lemmas.List.{length-append, length-map}
use Rattle.run_types.specs.declared.names.InName.{InName}
use Rattle.commands.specs.Filters.{is_nothing}
use Rattle.pipeline_text.specs.declared.script.Cmd.{Cmd}
use Rattle.pipeline_text.specs.declared.script.Pipeline.{Pipeline}
use Rattle.graphs.specs.Graph.{Graph, GraphNode, Writes, Reads, HasNone, HasOne, IsWired, IsNode}
use Rattle.graphs.specs.Graph.{IsPlan, node_at}
use Rattle.graphs.specs.Orders.{IsPlannedOrder}
use Rattle.planner.specs.declared.place.Place.{Place}
use Rattle.planner.specs.declared.place.End.{End}
use Rattle.planner.specs.declared.plan.Node.{Node}
use Rattle.planner.specs.declared.plan.Node.TheVariants as node
use Rattle.planner.specs.declared.plan.NodeName.TheVariants.{StageAt}
use Rattle.planner.specs.Places.{Stage, in_places, out_places}
use Rattle.planner.specs.Ends.{all_ends, in_ends, out_ends, is_fed}
use Rattle.planner.specs.Stages.{PlacedCommand, placed_in, placed_from, placed, stages_of, AreBody}
use Rattle.planner.specs.Stages.{is_negated}
use Rattle.planner.specs.Faults.{AreAbsent, the_faults}
use Rattle.planner.specs.Tables.{source_of, sink_of, in_name_of, names_of, number_of, nodes_of}
use Rattle.planner.specs.Planned.{Planned, joined, plan_of, graph_node, graph_of}
use Rattle.planner.specs.Laws.{AreInTurn, PlansAreWired}
use Rattle.planner.proofs.lemmas.TurnLaws.{stages_first, stages_in_turn}
use Rattle.planner.proofs.lemmas.Members.{end_stage, end_there, same_stage}
use Rattle.planner.proofs.lemmas.NumberLaws.{AreOrdered, AreKeyed, named_at, long, number_stage}
use Rattle.planner.proofs.lemmas.NumberLaws.{stage_within}
use Rattle.planner.proofs.lemmas.NodeKinds.{nodes_in, IsSourceNode, IsStageNode, IsSinkNode}
use Rattle.planner.proofs.lemmas.NodeKinds.{node_kinds}
use Rattle.planner.proofs.lemmas.Parts.{of_mapped}
use Rattle.planner.proofs.lemmas.PipeLaws.{AreApart}
use Rattle.planner.proofs.lemmas.RiseLaws.{stages_ordered, stages_keyed, nodes_counted}
use Rattle.planner.proofs.lemmas.Apart.{ReadsOnce, stages_read_once, plan_apart}
use Rattle.planner.proofs.lemmas.WireLaws.{before_g, within_g, source_wired, sink_wired}
use Rattle.planner.proofs.lemmas.WireLaws.{inputs_wired, branches_wired}

module _ (fifos : List (List ℕ)) (ss : List Stage) (turn : AreInTurn 0 ss)
    (absent : AreAbsent fifos ss the_faults) (once : All ReadsOnce ss) (order : List ℕ)
    (planned : IsPlannedOrder (length ss) (joined fifos ss) order) (negated : Bool) where
  abbrev ins : List End
  ins = in_ends fifos ss

  abbrev outs : List End
  outs = out_ends fifos ss

  abbrev g : Graph
  g = graph_of (plan_of fifos ss negated order)

  keyed : AreKeyed ins outs
  keyed = stages_keyed fifos ss order turn planned

  ordered : AreOrdered ins outs order
  ordered = stages_ordered fifos ss order turn planned

  apart : AreApart ins outs order
  apart = plan_apart fifos ss turn absent once order planned

  nodes_long : length g.nodes ≡ length (names_of ins outs order)
  nodes_long = length-map (nodes_of fifos ss ins outs order) graph_node
      ∙ nodes_counted fifos ss order turn planned

  -- each node is wired: a source, a stage, a sink
  source_kind_wired : (k : ℕ) (n : Node) → k < length (names_of ins outs order)
      → IsSourceNode fifos ss order k n → IsWired g k (graph_node n)
  source_kind_wired k n kl h =
      let named = named_at (names_of ins outs order) (source_of h.x) k kl h.number in
      let w = source_wired ins outs order apart keyed ordered g nodes_long refl k h.x kl named
      h.x_in (not-true (is_fed outs h.x) h.passes) in
      subst (λ (m : Node). IsWired g k (graph_node m)) h.is (of_name (in_name_of h.x.place) w)
    where
      of_name : (o : Option InName) → HasNone (Reads g k) × HasOne (Writes g k)
          → IsWired g k (graph_node (node.Source o))
      of_name None w = w
      of_name (Some name) w = w

  sink_kind_wired : (k : ℕ) (n : Node) → k < length (names_of ins outs order)
      → IsSinkNode fifos ss order k n → IsWired g k (graph_node n)
  sink_kind_wired k n kl h =
      let named = named_at (names_of ins outs order) (sink_of h.x) k kl h.number in
      subst (λ (m : Node). IsWired g k (graph_node m)) h.is
      (sink_wired ins outs order apart keyed ordered g nodes_long refl k h.x kl named h.x_in
      h.passes)

  stage_kind_wired : (k : ℕ) (n : Node) → k < length (names_of ins outs order)
      → IsStageNode fifos ss order k n → IsWired g k (graph_node n)
  stage_kind_wired k n kl h =
      let s = h.s in
      let named = named_at (names_of ins outs order) (StageAt s.index) k kl h.number in
      let reads = inputs_wired ins outs order apart keyed ordered g nodes_long refl k s.index
      (length (in_places fifos s)) kl named (below (in_places fifos) s h.s_in)
      (λ i il. end_there (in_places fifos) ss s h.s_in i il) in
      let writes = branches_wired ins outs order apart keyed ordered g nodes_long refl k s.index
      (length (out_places fifos s)) kl named (below (out_places fifos) s h.s_in) in
      subst (λ (m : Node). IsWired g k (graph_node m)) h.is (reads, writes)
    where
      below : (places : Stage → List Place) (s : Stage) → Contains ss s → (x : End)
          → Contains (all_ends places ss) x → x.stage ≡ s.index → x.number < length (places s)
      below places s sc x c e =
          let (t, tc, f, l) = end_stage places ss x c in
          subst (λ (r : Stage). x.number < length (places r))
          (same_stage ss t s turn tc sc (sym f ∙ e)) l

  wired : (k : ℕ) (n : GraphNode) → node_at g k ≡ Some n → IsWired g k n
  wired k n e =
      let (m, me, is) = of_mapped graph_node (nodes_in fifos ss order) k n e in
      let l = slice_get_within (nodes_in fifos ss order) k m me in
      let kl : k < length (names_of ins outs order) =
      omega (arith, l, nodes_counted fifos ss order turn planned) in
      subst (λ (t : GraphNode). IsWired g k t) is
      (⊎_elim (source_kind_wired k m kl)
      (λ rest. ⊎_elim (stage_kind_wired k m kl) (sink_kind_wired k m kl) rest)
      (node_kinds fifos ss turn order planned k m me))

  -- the last stage is a node
  result_within : 0 < length ss
      → IsNode g (number_of (names_of ins outs order) (StageAt (length ss - 1)))
  result_within some =
      let in_order = planned.all (length ss - 1) (omega arith) in
      let a = number_stage ins outs order keyed ordered (length ss - 1) in_order in
      let b = stage_within ins outs order keyed ordered (length ss - 1) in_order in
      let c = long ins outs order keyed ordered in
      omega (arith, a, b, c, nodes_long)

  -- the plan of stages is a plan of a graph
  plan_is_wired : 0 < length ss → IsPlan g
  plan_is_wired some = record {
    before = before_g ins outs order apart keyed ordered g nodes_long refl;
    within = within_g ins outs order apart keyed ordered g nodes_long refl;
    wired = wired;
    result = result_within some;
  }

-- ---- scripts

-- there are as many stages as commands
pub stages_as_many : (cs : List PlacedCommand) (ss : List Stage) → stages_of cs ≡ Some ss
    → length ss ≡ length cs
stages_as_many [] ss e = ap length (sym (same_Some [] ss e))
stages_as_many (c ∷ cs) ss e = stages_first c cs ss e (λ filter rest ef er es. ap length (sym es)
    ∙ ap suc (stages_as_many cs rest er))

-- a body has a stage
body_filled : (p : Pipeline) (ps : List Pipeline) → is_nothing p.commands ≡ false
    → 0 < length (placed_from 0 (p ∷ ps))
body_filled p ps e =
    let a = length-append (placed_in 0 p.background true p.commands)
    (placed_from (0 + length p.commands) ps) in
    let b = go p.commands e in
    omega (arith, a, b)
  where
    go : (cs : List Cmd) → is_nothing cs ≡ false → 0 < length (placed_in 0 p.background true cs)
    go [] e = absurd (cc e)
    go (c ∷ cs) e = omega arith

pub body_has_stages : (ps : List Pipeline) → AreBody ps → 0 < length (placed_from 0 ps)
body_has_stages [] h = absurd h
body_has_stages (p ∷ []) h = body_filled p [] h.1
body_has_stages (p ∷ q ∷ ps) h = body_filled p (q ∷ ps) h.1

-- the plan of a script is a plan of a graph
pub plans_are_wired : PlansAreWired
plans_are_wired s plan body is =
    let l = stages_as_many (placed s) is.ss is.means in
    let b = body_has_stages s.pipelines body in
    subst (λ (p : Planned). IsPlan (graph_of p)) (sym is.is)
    (plan_is_wired s.fifos is.ss (stages_in_turn s is.ss is.means) is.legal
    (stages_read_once s is.ss is.means) is.order is.planned (is_negated s.pipelines)
    (omega (arith, l, b)))
