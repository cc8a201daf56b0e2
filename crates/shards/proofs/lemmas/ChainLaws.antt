-- The sequential answer of a chain is what its filters write, one after another.
use Rattle.std.proofs.Common.{◌≡◌, ℕ, zero, suc, ◌+◌, ◌-◌, ◌<◌, ◌&&◌, Bool, true, false, cond, eqb}
use Rattle.std.proofs.Common.{List, [], ◌∷◌, ◌++◌, length, map, take, Option, Some, None, slice_get}
use Rattle.std.proofs.Common.{slice_index_or, refl, ap, ◌∙◌, sym, arith, length-append, ne_eqb}
use Rattle.std.proofs.Common.{eq-eqb, ⊎_elim}
use Rattle.std.proofs.lemmas.Bool.{cases_lt}
use Rattle.std.proofs.lemmas.List.{length-map}
use Rattle.std.proofs.lemmas.Option.{none-some, same_Some}
use Rattle.machine.specs.Whole.{status_of}
use Rattle.commands.specs.Filters.{filter_whole}
use Rattle.commands.specs.declared.spec.FilterSpec.{FilterSpec}
use Rattle.graphs.specs.Graph as graph
use Rattle.graphs.specs.Graph.{GraphNode, node_at, writer}
use Rattle.network_laws.specs.Sequential.{Contents, answer, held_after, is_missing, is_source}
use Rattle.network_laws.specs.Sequential.{missing_in, negated, output_of, status_at}
use Rattle.part_laws.specs.Divisions.{made_by}
use Rattle.part_laws.specs.Manners.{made_of}
use Rattle.planner.specs.Planned.{Planned, graph_node, graph_of}
use Rattle.planner.specs.declared.plan.Node.{Node}
use Rattle.planner.specs.declared.plan.Node.TheVariants.{Sink}
use Rattle.run_types.specs.declared.names.InName.{InName}
use Rattle.run_types.specs.declared.names.OutName.{OutName}
use Rattle.shards.specs.Chains.{IsChain, chained, output_for, status_for}
use Rattle.shards.proofs.lemmas.ChainLists.{chained_at, chained_length, front_at, joint_at}
use Rattle.shards.proofs.lemmas.ChainLists.{joints_length, link, mapped_at, there_is}

and_false : (b : Bool) → (b && false) ≡ false
and_false true = refl
and_false false = refl

take_all : {A : Type 0} (xs : List A) → take (length xs) xs ≡ xs
take_all [] = refl
take_all (x ∷ xs) = ap (λ ys. x ∷ ys) (take_all xs)

-- one filter more
made_next : (fs : List FilterSpec) (k : ℕ) (f : FilterSpec) (x : List ℕ) → slice_get fs k ≡ Some f
    → made_by (take (suc k) fs) x ≡ made_of f (made_by (take k fs) x)
made_next [] k f x e = absurd (none-some f e)
made_next (h ∷ fs) zero f x e = ap (λ (g : FilterSpec). made_of g x) (same_Some h f e)
made_next (h ∷ fs) (suc k) f x e = made_next fs k f (made_of h x) e

module _ (plan : Planned) (from : InName) (fs : List FilterSpec) (to : OutName)
    (c : IsChain plan from fs to) (x : List ℕ) where
  abbrev g : graph.Graph
  g = graph_of plan

  abbrev held_in : Contents
  held_in source = Some x

  writer_is : (p : ℕ) → p < suc (length fs) → writer g p ≡ p
  writer_is p l =
      let z : 0 + p ≡ p = omega arith in
      ap (λ (ps : List (ℕ × ℕ)). (slice_index_or ps p (0, 0)).0) c.pipes
      ∙ (ap (λ (e : ℕ × ℕ). e.0) (joint_at 0 (suc (length fs)) p l) ∙ z)

  first_node : node_at g 0 ≡ Some (graph.Source false)
  first_node = ap (λ (ns : List Node). slice_get (map graph_node ns) 0) c.nodes

  later_node : (k : ℕ) (f : FilterSpec) → slice_get fs k ≡ Some f
      → node_at g (suc k) ≡ Some (graph.Stage (filter_whole f) (k ∷ []) (Some (suc k) ∷ []))
  later_node k f e =
      let z : 0 + k ≡ k = omega arith in
      ap (λ (ns : List Node). slice_get (map graph_node ns) (suc k)) c.nodes
      ∙ mapped_at graph_node (chained 0 fs ++ Sink to ∷ []) k (link k f)
      (front_at (chained 0 fs) (Sink to ∷ []) k (link k f)
      (chained_at 0 fs k f e ∙ ap (λ (m : ℕ). Some (link m f)) z))

  -- no source is missing
  is_there : (held : ℕ → List ℕ) (k : ℕ)
      → cond (is_missing g (missing_in held_in) (writer g k)) None (Some (held k)) ≡ Some (held k)
  is_there held k = ap (λ (b : Bool). cond b None (Some (held k)))
      (and_false (is_source (node_at g (writer g k))))

  node_made : (m : ℕ) → m < suc (length fs)
      → ((k : ℕ) → k < m → k < suc (length fs) → held_after g held_in m k ≡ made_by (take k fs) x)
      → output_of g held_in (held_after g held_in m) m (node_at g m) ≡ made_by (take m fs) x
  node_made zero l earlier = ap (output_of g held_in (held_after g held_in zero) zero) first_node
  node_made (suc k) l earlier =
      let (f, e) = there_is fs k (omega (arith, l)) in
      ap (output_of g held_in (held_after g held_in (suc k)) (suc k)) (later_node k f e)
      ∙ (ap (λ (input : Option (List ℕ)). (filter_whole f (input ∷ [])).out)
      (is_there (held_after g held_in (suc k)) k)
      ∙ (ap (λ (y : List ℕ). made_of f y) (earlier k (omega arith) (omega (arith, l)))
      ∙ sym (made_next fs k f x e)))

  held_is : (m k : ℕ) → k < m → k < suc (length fs)
      → held_after g held_in m k ≡ made_by (take k fs) x
  held_is zero k l w = absurd (omega (arith, l))
  held_is (suc m) k l w =
      let made = output_of g held_in (held_after g held_in m) m (node_at g m) in
      let held = held_after g held_in m k in
      let mine : writer g k ≡ k = writer_is k w in
      ⊎_elim
      (λ below. let ne : eqb (writer g k) m ≡ false =
      ne_eqb (writer g k) m (λ e. absurd (omega (arith, mine, e, below))) in
      ap (λ (b : Bool). cond b made held) ne ∙ held_is m k below w)
      (λ above. let here : k ≡ m = omega (arith, above, l) in
      ap (λ (b : Bool). cond b made held) (eq-eqb (writer g k) m (mine ∙ here))
      ∙ (node_made m (omega (arith, here, w)) (held_is m)
      ∙ ap (λ (j : ℕ). made_by (take j fs) x) (sym here)))
      (cases_lt k m)

  pipe_count : length plan.pipes ≡ suc (length fs)
  pipe_count = ap (λ (ps : List (ℕ × ℕ)). length ps) c.pipes ∙ joints_length 0 (suc (length fs))

  node_count : length g.nodes ≡ suc (length fs + 1)
  node_count =
      ap (λ (ns : List Node). length (map graph_node ns)) c.nodes
      ∙ ap suc (length-map (chained 0 fs ++ Sink to ∷ []) graph_node
      ∙ (length-append (chained 0 fs) (Sink to ∷ []) ∙ ap (λ (n : ℕ). n + 1) (chained_length 0 fs)))

  pub output_is : output_for plan x ≡ made_by fs x
  unfolding answer
  output_is =
      let last : length plan.pipes - 1 ≡ length fs = omega (arith, pipe_count) in
      ap (λ (p : ℕ). held_after g held_in (length g.nodes) p) last
      ∙ (held_is (length g.nodes) (length fs) (omega (arith, node_count)) (omega arith)
      ∙ ap (λ (l : List FilterSpec). made_by l x) (take_all fs))

  status_at_end : (n : ℕ) → n ≡ length fs → status_at g held_in (answer g held_in) (node_at g n) ≡ 0
  status_at_end zero e = ap (status_at g held_in (answer g held_in)) first_node
  status_at_end (suc k) e =
      let (f, there) = there_is fs k (omega (arith, e)) in
      ap (status_at g held_in (answer g held_in)) (later_node k f there)
      ∙ ap (λ (input : Option (List ℕ)). status_of (input ∷ [])) (is_there (answer g held_in) k)

  pub status_is : status_for plan x ≡ 0
  status_is =
      ap (λ (r : ℕ × Bool). negated r.1 (status_at g held_in (answer g held_in) (node_at g r.0)))
      c.result
      ∙ status_at_end (length fs) refl
