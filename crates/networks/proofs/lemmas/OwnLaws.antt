-- The pipes of each node of a plan, by the table and by the node's own list.
use Rattle.std.proofs.Common.{◌≡◌, ℕ, suc, ◌<◌, ◌≤◌, inl, ⊎_elim, List, [], ◌∷◌, length, get_or}
use Rattle.std.proofs.Common.{Option, Some, None, refl, ap, ◌∙◌, sym, subst, arith}
use Rattle.std.specs.Prelude.{slice_get, option_map, Contains}
use Rattle.std.specs.List.{AllByRecursion}
use Rattle.std.proofs.lemmas.Option.{slice_get-map}
use Rattle.std.proofs.lemmas.List.{length-map}
use Rattle.machine.specs.Law.{Shown}
use Rattle.graphs.specs.Graph.{Graph, IsWired, node_at, Writes, Reads, AreAll, HasOne, HasNone}
use Rattle.graphs.specs.Graph.{present}
use Rattle.network_nodes.specs.declared.making.NodeSpec.{NodeSpec}
use Rattle.network_nodes.specs.declared.making.NodeSpec.TheVariants as pl
use Rattle.network_nodes.specs.inner.MadeNodes.{wires_at, first, own_outs, own_ins, IsReady}
use Rattle.network_nodes.specs.inner.MadeNodes.{AreOwned, AreWiresOf}
use Rattle.networks.specs.inner.MadeNetwork.{shape_of, shape_node, IsSized, CanBeMade}

first_is : (wire : List ℕ) (p : ℕ) → Contains wire p → ((q : ℕ) → slice_get wire 0 ≡ Some q → q ≡ p)
    → first wire ≡ p ∷ []
first_is [] p h only = absurd (let l : h.0 < 0 = h.1 in let f : ⊥ = omega (arith, l) in f)
first_is (q ∷ wire) p h only = ap (λ (x : ℕ). x ∷ []) (only q refl)

only_one : (P : ℕ → Type 0) (h : HasOne P) → AreAll P (h.0 ∷ [])
only_one P h = record {
  each = λ p. ((λ x. inl (h.2 p x)), (λ m. ⊎_elim (λ e. subst P (sym e) h.1) (λ n. absurd n) m));
  once = ((λ m. m), tt);
}

none_at_all : (P : ℕ → Type 0) → HasNone P → AreAll P []
none_at_all P h = record { each = λ p. ((λ x. h p x), (λ m. absurd m)); once = tt }

filter_short : (xs : List (Option ℕ)) → length (present xs) ≤ length xs
filter_short [] = omega arith
filter_short (None ∷ xs) =
    let h = filter_short xs in
    let g : length (present xs) ≤ suc (length xs) = omega (arith, h) in
    g
filter_short (Some x ∷ xs) =
    let h = filter_short xs in
    let g : suc (length (present xs)) ≤ suc (length xs) = omega (arith, h) in
    g

module _ {M : Type 0} (shows : M → Shown) (nodes : List (NodeSpec M)) (pipes : List (ℕ × ℕ))
    (can : CanBeMade shows nodes pipes) where
  abbrev g : Graph
  g = shape_of nodes pipes can.result

  shape_at : (k : ℕ) (node : NodeSpec M) → slice_get nodes k ≡ Some node
      → node_at g k ≡ Some (shape_node node)
  shape_at k node e = slice_get-map shape_node nodes k
      ∙ ap (λ (o : Option (NodeSpec M)). option_map shape_node o) e

  pub plan_within : (p : ℕ) → p < length pipes → ((get_or pipes p (0, 0)).0 < length nodes)
      × ((get_or pipes p (0, 0)).1 < length nodes)
  plan_within p lt =
      let plan = can.plan in
      let b = plan.before p lt in
      let w = plan.within p lt in
      let l = length-map nodes shape_node in
      (omega (arith, b, w, l), omega (arith, w, l))

  pub ends_within : (count : ℕ) → count ≡ length nodes
      → AllByRecursion (λ e. (e.0 < count) × (e.1 < count)) pipes
  ends_within count same = go pipes (λ i lt. let h = plan_within i lt in
      (omega (arith, same, h.0), omega (arith, same, h.1))) where
        go : (xs : List (ℕ × ℕ)) → ((i : ℕ) → i < length xs
            → ((get_or xs i (0, 0)).0 < count) × ((get_or xs i (0, 0)).1 < count))
            → AllByRecursion (λ (e : ℕ × ℕ). (e.0 < count) × (e.1 < count)) xs
        go [] h = tt
        go (x ∷ xs) h = (h 0 (omega arith), go xs (λ i lt. h (suc i) (omega (arith, lt))))

  module _ (wires : List (List ℕ)) (wired : AreWiresOf (length nodes) pipes wires) where
    module _ (k : ℕ) where
      source_first : (none : HasNone (Reads g k)) (one : HasOne (Writes g k))
          → first (wires_at wires k) ≡ one.0 ∷ []
      source_first none one = first_is (wires_at wires k) one.0
          (subst (λ (m : ℕ). Contains (wires_at wires m) one.0) one.1.1
          ((wired.all one.0 one.1.0).0))
          (λ q e. let o = wired.only k 0 q e in
          ⊎_elim (λ w. one.2 q (o.0, w)) (λ r. absurd (none q (o.0, r))) o.1)

      sink_first : (none : HasNone (Writes g k)) (one : HasOne (Reads g k))
          → first (wires_at wires k) ≡ one.0 ∷ []
      sink_first none one = first_is (wires_at wires k) one.0
          (subst (λ (m : ℕ). Contains (wires_at wires m) one.0) one.1.1
          ((wired.all one.0 one.1.0).1))
          (λ q e. let o = wired.only k 0 q e in
          ⊎_elim (λ w. absurd (none q (o.0, w))) (λ r. one.2 q (o.0, r)) o.1)

      outs_wired : (node : NodeSpec M) → IsWired g k (shape_node node)
          → AreAll (Writes g k) (own_outs node (wires_at wires k))
      outs_wired (pl.Source file) w = subst (AreAll (Writes g k)) (sym (source_first w.0 w.1))
          (only_one (Writes g k) w.1)
      outs_wired (pl.Stage machine inputs branches) w = w.1
      outs_wired (pl.Sink file name) w = none_at_all (Writes g k) w.0

      ins_wired : (node : NodeSpec M) → IsWired g k (shape_node node)
          → AreAll (Reads g k) (own_ins node (wires_at wires k))
      ins_wired (pl.Source file) w = none_at_all (Reads g k) w.0
      ins_wired (pl.Stage machine inputs branches) w = w.0
      ins_wired (pl.Sink file name) w = subst (AreAll (Reads g k)) (sym (sink_first w.0 w.1))
          (only_one (Reads g k) w.1)

      is_ready : (node : NodeSpec M) → IsSized shows node → IsWired g k (shape_node node)
          → IsReady shows node (own_outs node (wires_at wires k)) (own_ins node (wires_at wires k))
      is_ready (pl.Source file) z w = (ap length (source_first w.0 w.1), refl)
      is_ready (pl.Stage machine inputs branches) z w =
          (z.0, z.1, (let h = filter_short branches.items in let b = z.2 in omega (arith, h, b)))
      is_ready (pl.Sink file name) z w = (refl, ap length (sink_first w.0 w.1))

    pub are_owned : AreOwned shows nodes pipes wires
    are_owned = record {
      lists = wired.lists;
      ready = λ k node e. is_ready k node (can.sized k node e) (let plan = can.plan in
          plan.wired k (shape_node node) (shape_at k node e));
      outs = λ k node e. outs_wired k node (let plan = can.plan in
          plan.wired k (shape_node node) (shape_at k node e));
      ins = λ k node e. ins_wired k node (let plan = can.plan in
          plan.wired k (shape_node node) (shape_at k node e));
      within = plan_within;
    }
