-- Each source and each sink of a plan has its own opening.
use Rattle.std.proofs.Common.{◌≡◌, ℕ, ◌<◌, ◌≤◌, Bool, true, false, cond, List, length, map, Option}
use Rattle.std.proofs.Common.{Some, None, slice_get, refl, sym, ap, ◌∙◌, subst, ⊎_elim, arith}
use Rattle.std.specs.List.{All, Contains, count_by, flat_map}
use Rattle.std.proofs.lemmas.Bool.{eq-eqb}
use Rattle.std.proofs.lemmas.Option.{none-some}
use Rattle.run_types.specs.declared.names.InName.{InName}
use Rattle.run_types.specs.declared.names.OutName.{OutName}
use Rattle.graphs.specs.Orders.{IsPlannedOrder}
use Rattle.planner.specs.declared.openings.Opened.{Opened}
use Rattle.planner.specs.declared.place.Place.{Place}
use Rattle.planner.specs.declared.place.End.{End}
use Rattle.planner.specs.declared.plan.InOpening.{InOpening}
use Rattle.planner.specs.declared.plan.Node.TheVariants as node
use Rattle.planner.specs.declared.plan.NodeName.{NodeName}
use Rattle.planner.specs.declared.plan.NodeName.TheVariants.{SourceOf, SinkOf}
use Rattle.planner.specs.declared.plan.OutOpening.{OutOpening}
use Rattle.planner.specs.Places.{Stage, in_places, out_places}
use Rattle.planner.specs.Ends.{meets, is_outside, is_fed, in_ends, out_ends}
use Rattle.planner.specs.Laws.{AreInTurn, IsInputOf, IsOutputOf, HasOwnOpenings, OpeningsAreOwn}
use Rattle.planner.specs.Openings.{opened_ends, in_side, out_side, in_opening, out_opening}
use Rattle.planner.specs.Planned.{joined, plan_of}
use Rattle.planner.specs.Stages.{is_negated}
use Rattle.planner.specs.Tables.{source_of, sink_of, in_name, out_name, in_name_of}
use Rattle.planner.proofs.lemmas.Apart.{ReadsOnce, stages_read_once, meets_back}
use Rattle.planner.proofs.lemmas.NodeKinds.{names_in, nodes_in, IsSourceNode, IsStageNode}
use Rattle.planner.proofs.lemmas.NodeKinds.{IsSinkNode, node_kinds, source_holds, sink_holds}
use Rattle.planner.proofs.lemmas.NumberLaws.{named_at}
use Rattle.planner.proofs.lemmas.OpenedInputs.{ins_are}
use Rattle.planner.proofs.lemmas.OpenedOutputs.{outs_are}
use Rattle.planner.proofs.lemmas.Parts.{contains_at, place_of_one, mapped_at, of_mapped, none_any}
use Rattle.planner.proofs.lemmas.Parts.{same_place}
use Rattle.planner.proofs.lemmas.PipeLaws.{outside_meets_none}
use Rattle.planner.proofs.lemmas.Served.{serves, ServesEnd, end_served, end_opened, served_once}
use Rattle.planner.proofs.lemmas.TurnLaws.{stages_in_turn}

-- what is written by no stage, if it leads outside
not_fed : (outs : List End) (x : End) → is_outside x.place ≡ true → is_fed outs x ≡ false
not_fed outs x w = none_any (λ (o : End). meets o x) outs (λ o. meets_back o.place x.place
    ∙ outside_meets_none x.place o.place w)

-- what is opened for a source
named_outside : (p : Place) (name : InName) → in_name_of p ≡ Some name
    → (is_outside p ≡ true) × (in_name p ≡ name)
named_outside p name e = go (is_outside p) refl e
  where
    go : (b : Bool) → is_outside p ≡ b → cond b (Some (in_name p)) None ≡ Some name
        → (is_outside p ≡ true) × (in_name p ≡ name)
    go true w e = (w, cc e)
    go false w e = absurd (none-some name e)

outside_named : (p : Place) → is_outside p ≡ true → in_name_of p ≡ Some (in_name p)
outside_named p w = ap (λ b. cond b (Some (in_name p)) None) w

-- two openings for one node are one, if at most one serves it
one_serves : {A : Type 0} (f : Opened → A) (node : A → Option ℕ) (os : List Opened) (k : ℕ)
    → ((o : Opened) → node (f o) ≡ o.node) → count_by (λ (o : Opened). serves k o.node) os ≤ 1
    → (i j : ℕ) (o r : A) → slice_get (map f os) i ≡ Some o → slice_get (map f os) j ≡ Some r
    → node o ≡ Some k → node r ≡ Some k → i ≡ j
one_serves {A} f node os k same few i j o r e g m n =
    let (a, ae, af) = of_mapped f os i o e in
    let (b, be, bf) = of_mapped f os j r g in
    let passes : (q : Opened) (p : A) → f q ≡ p → node p ≡ Some k → serves k q.node ≡ true =
    λ q p h l. ap (serves k) (sym (same q) ∙ (ap node h ∙ l)) ∙ eq-eqb k k refl in
    same_place (λ (y : Opened). serves k y.node) os few i j a b ae be (passes a o af m)
    (passes b r bf n)

module _ (fifos : List (List ℕ)) (ss : List Stage) (turn : AreInTurn 0 ss) (once : All ReadsOnce ss)
    (order : List ℕ) (planned : IsPlannedOrder (length ss) (joined fifos ss) order)
    (negated : Bool) where
  abbrev names : List NodeName
  names = names_in fifos ss order

  abbrev ins : List Opened
  ins = flat_map (opened_ends (in_side fifos) names) ss

  abbrev outs : List Opened
  outs = flat_map (opened_ends (out_side fifos) names) ss

  -- the input that an opening is for
  in_served : (o : Opened) (k : ℕ) → Contains ins o → o.node ≡ Some k
      → ServesEnd SourceOf (in_ends fifos ss) names k o.place
  in_served o k c n = end_served (in_side fifos) (in_places fifos) names ss
      (ins_are fifos ss once) k o c n

  out_served : (o : Opened) (k : ℕ) → Contains outs o → o.node ≡ Some k
      → ServesEnd SinkOf (out_ends fifos ss) names k o.place
  out_served o k c n = end_served (out_side fifos) (out_places fifos) names ss
      (λ s c. outs_are fifos s) k o c n

  source_opened : (k : ℕ) (name : InName)
      → slice_get (nodes_in fifos ss order) k ≡ Some (node.Source (Some name))
      → IsInputOf (plan_of fifos ss negated order) k name
  source_opened k name e = ⊎_elim
      (λ (h : IsSourceNode fifos ss order k (node.Source (Some name))).
      let called : in_name_of h.x.place ≡ Some name =
      let f : node.Source (in_name_of h.x.place) ≡ node.Source (Some name) = h.is in
      cc f in
      let (w, n) = named_outside h.x.place name called in
      let r = end_opened (in_side fifos) (in_places fifos) names ss
      (ins_are fifos ss once) h.x h.x_in w in
      let (i, ie) = place_of_one ins r.o r.o_in in
      record {
        place = i;
        opening = in_opening r.o;
        there =
            mapped_at in_opening ins i r.o ie;
        for_node = r.for_node
            ∙ ap Some h.number;
        called = ap in_name r.is ∙ n;
      })
      (λ rest. ⊎_elim
      (λ (h : IsStageNode fifos ss order k (node.Source (Some name))). absurd (cc h.is))
      (λ (h : IsSinkNode fifos ss order k (node.Source (Some name))). absurd (cc h.is)) rest)
      (node_kinds fifos ss turn order planned k (node.Source (Some name)) e)

  source_read : (i k : ℕ) (o : InOpening) → slice_get (map in_opening ins) i ≡ Some o
      → o.node ≡ Some k → slice_get (nodes_in fifos ss order) k ≡ Some (node.Source (Some o.name))
  source_read i k o e n =
      let (r, re, ro) = of_mapped in_opening ins i o e in
      let h = in_served r k (contains_at ins i r re) (ap (λ (q : InOpening). q.node) ro ∙ n) in
      let at = (source_holds fifos ss turn order planned h.x h.x_in
      (not_fed (out_ends fifos ss) h.x h.outside)).0 in
      let named : in_name_of h.x.place ≡ Some o.name = outside_named h.x.place h.outside
      ∙ (ap (λ p. Some (in_name p)) (sym h.is) ∙ ap (λ (q : InOpening). Some q.name) ro) in
      ap (λ j. slice_get (nodes_in fifos ss order) j) (sym h.number)
      ∙ (at ∙ ap (λ m. Some (node.Source m)) named)

  source_once : (i j k : ℕ) (o r : InOpening) → slice_get (map in_opening ins) i ≡ Some o
      → slice_get (map in_opening ins) j ≡ Some r → o.node ≡ Some k → r.node ≡ Some k → i ≡ j
  source_once i j k o r e f m n =
      let (a, ae, ao) = of_mapped in_opening ins i o e in
      let h = in_served a k (contains_at ins i a ae) (ap (λ (q : InOpening). q.node) ao ∙ m) in
      let l = (source_holds fifos ss turn order planned h.x h.x_in
      (not_fed (out_ends fifos ss) h.x h.outside)).1 in
      let w = h.number in
      let kl : k < length names = omega (arith, l, w) in
      let few = served_once (in_side fifos) (in_places fifos) names ss (ins_are fifos ss once)
      (λ s b t c q. (cc q, cc q)) k h.x.stage h.x.number kl
      (named_at names (source_of h.x) k kl w) turn in
      one_serves in_opening (λ (q : InOpening). q.node) ins k (λ q. refl) few i j o r e f m n

  sink_opened : (k : ℕ) (name : OutName) → slice_get (nodes_in fifos ss order) k
      ≡ Some (node.Sink name) → IsOutputOf (plan_of fifos ss negated order) k name
  sink_opened k name e = ⊎_elim
      (λ (h : IsSourceNode fifos ss order k (node.Sink name)). absurd (cc h.is))
      (λ rest. ⊎_elim
      (λ (h : IsStageNode fifos ss order k (node.Sink name)). absurd (cc h.is))
      (λ (h : IsSinkNode fifos ss order k (node.Sink name)).
      let called : out_name h.x.place ≡ name = let f : node.Sink (out_name h.x.place)
      ≡ node.Sink name = h.is in
      cc f in
      let r = end_opened (out_side fifos) (out_places fifos) names ss
      (λ s c. outs_are fifos s) h.x h.x_in h.passes in
      let (i, ie) = place_of_one outs r.o r.o_in in
      record {
        place = i;
        opening = out_opening r.o;
        there =
            mapped_at out_opening outs i r.o ie;
        for_node = r.for_node
            ∙ ap Some h.number;
        called = ap out_name r.is ∙ called;
      }) rest)
      (node_kinds fifos ss turn order planned k (node.Sink name) e)

  sink_written : (i k : ℕ) (o : OutOpening) → slice_get (map out_opening outs) i ≡ Some o
      → o.node ≡ Some k → slice_get (nodes_in fifos ss order) k ≡ Some (node.Sink o.name)
  sink_written i k o e n =
      let (r, re, ro) = of_mapped out_opening outs i o e in
      let h = out_served r k (contains_at outs i r re) (ap (λ (q : OutOpening). q.node) ro ∙ n) in
      let at = (sink_holds fifos ss turn order planned h.x h.x_in h.outside).0 in
      let named : out_name h.x.place ≡ o.name = ap out_name (sym h.is)
      ∙ ap (λ (q : OutOpening). q.name) ro in
      ap (λ j. slice_get (nodes_in fifos ss order) j) (sym h.number)
      ∙ (at ∙ ap (λ m. Some (node.Sink m)) named)

  sink_once : (i j k : ℕ) (o r : OutOpening) → slice_get (map out_opening outs) i ≡ Some o
      → slice_get (map out_opening outs) j ≡ Some r → o.node ≡ Some k → r.node ≡ Some k → i ≡ j
  sink_once i j k o r e f m n =
      let (a, ae, ao) = of_mapped out_opening outs i o e in
      let h = out_served a k (contains_at outs i a ae) (ap (λ (q : OutOpening). q.node) ao ∙ m) in
      let l = (sink_holds fifos ss turn order planned h.x h.x_in h.outside).1 in
      let w = h.number in
      let kl : k < length names = omega (arith, l, w) in
      let few = served_once (out_side fifos) (out_places fifos) names ss (λ s c. outs_are fifos s)
      (λ s b t c q. (cc q, cc q)) k h.x.stage h.x.number kl
      (named_at names (sink_of h.x) k kl w) turn in
      one_serves out_opening (λ (q : OutOpening). q.node) outs k (λ q. refl) few i j o r e f m n

  plan_has_own : HasOwnOpenings (plan_of fifos ss negated order)
  plan_has_own = record {
    inputs = source_opened;
    read = source_read;
    once = source_once;
    outputs = sink_opened;
    written = sink_written;
    written_once = sink_once;
  }

-- each source and each sink of a script's plan has its own opening
pub openings_are_own : OpeningsAreOwn
openings_are_own s plan is =
    subst HasOwnOpenings (sym is.is)
    (plan_has_own s.fifos is.ss (stages_in_turn s is.ss is.means)
    (stages_read_once s is.ss is.means) is.order is.planned (is_negated s.pipelines))
